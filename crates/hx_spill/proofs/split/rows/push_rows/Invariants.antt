use Rattle.std.proofs.Common.{◌≡◌, ◌++◌, ◌<◌, ℕ, slice_index_or, take}
use Rattle.hx_spill.specs.Splits.{RowFits, bytes_of_rows}
use Rattle.hx_spill.specs.declared.split.Placed.{Placed}
use Rattle.hx_spill.proofs.split.rows.push_rows.Given as goal

abbrev pub invariant-loop-placed : goal.invariant-loop-placed
invariant-loop-placed l = record {
  written : l.bytes.items ≡ l.fn.bytes.items ++ bytes_of_rows (take l.placed-index l.rows);
  fit : (k : ℕ) → (d : Placed) → k < l.placed-index → RowFits (slice_index_or l.rows k d).row;
}
