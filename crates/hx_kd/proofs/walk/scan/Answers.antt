use Rattle.std.proofs.Common.{◌++◌, List, take, arith, subst}
use Rattle.std.proofs.lemmas.List.{take_all}
use Rattle.hx_base.specs.declared.row.Row.{Row}
use Rattle.hx_kd.specs.Closest.{IsClosestOf}
use Rattle.hx_kd.proofs.Keeping.{kept_next}
use Rattle.hx_kd.proofs.walk.scan.Goals as goal

pub loop-row-preserved : goal.loop-row-preserved
loop-row-preserved c = λ r2 seen h.
    kept_next c.args.from.now.row r2 seen c.args.rows.now c.loop-row.row-index _ c.offer.new.self (omega arith)
    (c.offer.ensures r2 (seen ++ take c.loop-row.row-index c.args.rows.now) (c.loop-row.invariant r2 seen h))

pub returns : goal.returns
returns c = λ r2 seen h.
    let done = c.loop-row-test.false in
    subst (λ (xs : List Row). IsClosestOf c.args.from.now.row r2 (seen ++ xs) c.loop-row.best) (take_all c.loop-row.row-index c.args.rows.now (omega (arith, done))) (c.loop-row.invariant r2 seen h)
