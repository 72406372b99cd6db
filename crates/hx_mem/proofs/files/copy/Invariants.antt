use Rattle.std.proofs.Common.{◌≡◌, take}
use Rattle.hx_mem.proofs.files.copy.Given as goal

abbrev pub invariant-loop-at : goal.invariant-loop-at
invariant-loop-at l = l.copied.items ≡ take l.at l.files
