use Rattle.std.proofs.Common.{arith}
use Rattle.hx_import.proofs.Ran.{closed_late, ended_run, small_told}
use Rattle.hx_import.proofs.serial.ended.Goals as goal

pub returns-clause-run : goal.returns-clause-run
returns-clause-run g c =
    let r = c.close.result in
    let e = c.close.ensures in
    ended_run g.J.Job.of g.Src.Source.source g.S.Store.disk r.inputs.items r.store e.back e.told e.good e.untouched (omega (arith, e.faults, c.requires.later)) r.refusal r.rows r.partitions r.margin e.cause e.nothing
    (λ p none. e.filed p none c.requires.whole) (λ p none. e.numbers p none c.requires.whole)
    (λ none. let t = e.totals none in (small_told r.rows _ t.0, small_told r.margin _ t.2))

pub returns-clause-late : goal.returns-clause-late
returns-clause-late g c =
    let r = c.close.result in
    let e = c.close.ensures in
    closed_late g.J.Job.of g.Src.Source.source g.S.Store.disk r.inputs.items r.store e.back e.told e.good e.untouched (omega (arith, e.faults, c.requires.later)) r.refusal e.cause
