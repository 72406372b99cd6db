use Rattle.std.specs.List.Sorted.{IsSortedWithin}
use Rattle.std.specs.Ordering.{is_lt}
use Rattle.hx_base.specs.Rows.{row_cmp}
use Rattle.hx_base.specs.declared.row.Row.{Row}
use Rattle.hx_catalog.proofs.parquet.ascend.Given as goal

abbrev pub invariant-loop-i : goal.invariant-loop-i
invariant-loop-i l = IsSortedWithin (λ (x y : Row). is_lt (row_cmp x y)) l.rows 0 l.i
