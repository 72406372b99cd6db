use Rattle.hx_journal.proofs.Trimming.{cut_passes, sync_passes, comes_to_rest}
use Rattle.hx_journal.proofs.opening.trim.Goals as goal

pub returns-in_err-cut-clause-passes : goal.returns-in_err-cut-clause-passes
returns-in_err-cut-clause-passes g c header rs heading place tells stable stands =
    let d = g.S.Store.disk in
    let cut = c.cut.ensures.acts tells in
    let first = cut_passes d c.args.store.now c.args.name.now header rs c.args.len heading place tells stable stands c.cut.new.self cut.passes in
    first

pub returns-clause-passes : goal.returns-clause-passes
returns-clause-passes g c header rs heading place tells stable stands =
    let d = g.S.Store.disk in
    let cut = c.cut.ensures.acts tells in
    let first = cut_passes d c.args.store.now c.args.name.now header rs c.args.len heading place tells stable stands c.cut.new.self cut.passes in
    sync_passes d c.args.store.now c.args.name.now header rs c.args.len heading place tells stable stands c.cut.new.self c.sync.new.self first (c.sync.ensures.acts cut.passes.told).passes

pub returns-clause-rest : goal.returns-clause-rest
returns-clause-rest g c header rs heading place tells stable stands =
    let d = g.S.Store.disk in
    let cut = c.cut.ensures.acts tells in
    let last = c.sync.ensures.acts cut.passes.told in
    comes_to_rest d c.args.store.now c.args.name.now header rs c.args.len heading place tells stable stands c.cut.new.self c.sync.new.self c.sync.result (c.in_ok-cut.ensures.done tells) last.passes.seen (c.sync.ensures.done cut.passes.told)
