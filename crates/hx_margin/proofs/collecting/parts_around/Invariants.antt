use Rattle.hx_margin.proofs.Spans.{AreReached}
use Rattle.hx_margin.proofs.collecting.parts_around.Given as goal

abbrev pub invariant-loop-i : goal.invariant-loop-i
invariant-loop-i l = AreReached l.tree l.part.order l.around l.i l.next l.numbers.items
