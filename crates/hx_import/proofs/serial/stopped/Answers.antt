use Rattle.std.proofs.Common.{arith, subst, sym}
use Rattle.hx_import.specs.Importing.{IsRun}
use Rattle.hx_import.proofs.Ran.{stopped_late, stopped_run}
use Rattle.hx_import.proofs.serial.stopped.Goals as goal

pub returns-clause-run : goal.returns-clause-run
returns-clause-run g c =
    let j = g.J.Job.of in
    let source = g.Src.Source.source in
    let d = g.S.Store.disk in
    let r = c.close.result in
    let e = c.close.ensures in
    let out = c.given_up.result in
    let (inputs, store) = c.given_up.ensures.back in
    let run = stopped_run j source d r.inputs.items r.store e.back e.told e.good e.untouched (omega (arith, e.faults, c.requires.later)) r.refusal r.rows r.partitions r.margin e.cause e.nothing
    out.refusal out.rows out.partitions out.margin c.given_up.ensures.kept c.given_up.ensures.none in
    subst (λ s. IsRun j source d out.refusal out.rows out.partitions out.margin out.inputs.items s) (sym store)
    (subst (λ v. IsRun j source d out.refusal out.rows out.partitions out.margin v.items r.store) (sym inputs) run)

pub returns-clause-late : goal.returns-clause-late
returns-clause-late g c =
    let r = c.close.result in
    let e = c.close.ensures in
    stopped_late g.J.Job.of g.Src.Source.source g.S.Store.disk r.inputs.items r.store e.back e.told e.good e.untouched (omega (arith, e.faults, c.requires.later)) r.refusal c.given_up.result.refusal e.cause
    (λ some. (c.given_up.ensures.kept some).0) (λ none. (c.given_up.ensures.none none).0)
