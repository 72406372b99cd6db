use Rattle.hx_margin.proofs.Spans.{AreAddedTo}
use Rattle.hx_margin.proofs.collecting.add_range.Given as goal

abbrev pub invariant-loop-number : goal.invariant-loop-number
invariant-loop-number l = AreAddedTo l.from l.end l.number l.initial.numbers.items l.numbers.items
