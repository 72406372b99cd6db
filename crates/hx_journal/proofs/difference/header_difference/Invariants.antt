use Rattle.std.proofs.Common.{◌≡◌, take}
use Rattle.hx_journal.proofs.difference.header_difference.Given as goal

abbrev pub invariant-loop-i : goal.invariant-loop-i
invariant-loop-i l = take l.i l.kept ≡ take l.i l.asked
