use Rattle.std.proofs.Common.{map, take}
use Rattle.hx_work.specs.Sorting.{AreByPixel}
use Rattle.hx_work.proofs.sorting.by_pixel.Given as goal

abbrev pub invariant-loop-row : goal.invariant-loop-row
invariant-loop-row l = AreByPixel (take l.row-index l.rows) (map (λ list. list.items) l.lists.items)
