use Rattle.std.specs.List.{AllWithin}
use Rattle.hx_base.specs.Pixels.{PixelContains}
use Rattle.hx_xmatch.proofs.runs.count_in.Given as goal

abbrev pub invariant-loop-i : goal.invariant-loop-i
invariant-loop-i l = AllWithin (PixelContains l.part) l.rows 0 l.i
