use Rattle.std.proofs.Common.{◌+◌, List, arith, refl, subst, sym}
use Rattle.hx_base.specs.declared.row.Row.{Row}
use Rattle.hx_work.proofs.AsCounted.{CountUpTo, count_pair}
use Rattle.hx_work.proofs.counting.are_counted.Goals as goal

pub loop-pair-preserved : goal.loop-pair-preserved
loop-pair-preserved c =
    let seen = c.if-not-begin_in.ensures in
    subst (λ (rest : List Row). CountUpTo c.order-order.result c.args.rows.now c.pairs-pair-items.result.now (c.loop-pair.pair-index + 1) rest) (sym c.behind-rest.ensures)
    (count_pair c.order-order.result c.args.rows.now c.pairs-pair-items.result.now c.loop-pair.pair-index _ c.loop-pair.rest.now (omega (arith, c.loop-pair-test.true)) (seen.many refl) (seen.first refl) c.loop-pair.invariant)
