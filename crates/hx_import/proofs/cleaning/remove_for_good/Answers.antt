use Rattle.hx_import.proofs.Cleaned.{removed_gone, removed_passes}
use Rattle.hx_import.proofs.cleaning.remove_for_good.Goals as goal

pub returns-clause-passes : goal.returns-clause-passes
returns-clause-passes g c tells =
    let first = (c.sync.ensures.acts tells).passes in
    removed_passes g.S.Store.disk _ _ _ c.args.path.now tells first (c.remove.ensures.acts first.told).passes

pub returns-clause-gone : goal.returns-clause-gone
returns-clause-gone g c tells =
    let first = (c.sync.ensures.acts tells).passes in
    removed_gone g.S.Store.disk _ _ _ c.args.path.now c.remove.result first (c.remove.ensures.whole first.told (c.in_ok-sync.ensures.done tells))
