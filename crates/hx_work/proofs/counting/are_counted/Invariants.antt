use Rattle.hx_work.proofs.AsCounted.{CountUpTo}
use Rattle.hx_work.proofs.counting.are_counted.Given as goal

abbrev pub invariant-loop-pair : goal.invariant-loop-pair
invariant-loop-pair l = CountUpTo l.order l.rows l.pair-items l.pair-index l.rest
