use Rattle.std.proofs.Common.{ℕ, ◌<◌, slice_index_or}
use Rattle.hx_base.specs.declared.row.Row.{Row}
use Rattle.hx_pqwrite.specs.Tables.{RowFits}
use Rattle.hx_pqwrite.proofs.ranges.rows_fit.Given as goal

abbrev pub invariant-loop-row : goal.invariant-loop-row
invariant-loop-row l = (k : ℕ) → (d : Row) → k < l.row-index → RowFits (slice_index_or l.rows k d)
