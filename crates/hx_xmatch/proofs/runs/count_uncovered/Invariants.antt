use Rattle.std.specs.List.{AllWithin}
use Rattle.hx_xmatch.specs.Runs.{IsUncovered}
use Rattle.hx_xmatch.proofs.runs.count_uncovered.Given as goal

abbrev pub invariant-loop-i : goal.invariant-loop-i
invariant-loop-i l = AllWithin (IsUncovered l.tree) l.rows 0 l.i
