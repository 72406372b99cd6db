use Rattle.hx_base.proofs.Ranges.{EachEndsFirst}
use Rattle.hx_base.proofs.pixels.each_ends_first.Given as goal

abbrev pub invariant-loop-i : goal.invariant-loop-i
invariant-loop-i l = EachEndsFirst l.fn.pixels l.i
