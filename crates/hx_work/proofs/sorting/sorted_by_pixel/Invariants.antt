use Rattle.std.proofs.Common.{◌≡◌, ◌++◌, length, map}
use Rattle.hx_base.specs.Rows.{sorted_rows}
use Rattle.hx_work.specs.Sorting.{AreByPixel}
use Rattle.hx_work.proofs.ByPixel.{rows_before}
use Rattle.hx_work.proofs.sorting.sorted_by_pixel.Given as goal

abbrev pub invariant-loop-list : goal.invariant-loop-list
invariant-loop-list l =
    (l.sorted.items ≡ sorted_rows (rows_before (length l.yielded) l.rows)) × AreByPixel l.rows (map (λ list. list.items) (l.yielded ++ l.list-iterator.rest.items))
