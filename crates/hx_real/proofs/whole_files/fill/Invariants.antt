use Rattle.std.proofs.Common.{◌≤◌, length}
use Rattle.hx_real.proofs.whole_files.fill.Given as goal

-- no more bytes than there is room for
abbrev pub invariant-loop : goal.invariant-loop
invariant-loop g l = l.count ≤ length l.buf
