use Rattle.hx_margin.proofs.Looking.{AreFoundAt}
use Rattle.hx_margin.proofs.finding.find_beside.Given as goal

abbrev pub invariant-loop-i : goal.invariant-loop-i
invariant-loop-i l = AreFoundAt l.tree l.own l.margin_order l.around l.i l.numbers.items
