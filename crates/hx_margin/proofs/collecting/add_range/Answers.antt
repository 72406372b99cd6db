use Rattle.hx_margin.proofs.Spans.{all_added, one_added}
use Rattle.hx_margin.proofs.collecting.add_range.Goals as goal

pub loop-number-preserved : goal.loop-number-preserved
loop-number-preserved c =
    rw c.in_ok-push.ensures.items
    (one_added c.args.from c.args.end c.loop-number.number c.args.numbers.now.items c.loop-number.numbers.items c.loop-number.auto.number c.loop-number-test.true c.loop-number.invariant)

pub returns : goal.returns
returns c = all_added c.args.from c.args.end c.loop-number.number c.args.numbers.now.items c.loop-number.numbers.items c.loop-number-test.false c.loop-number.auto.number-end c.loop-number.invariant
