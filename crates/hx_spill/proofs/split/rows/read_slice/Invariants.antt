use Rattle.std.proofs.Common.{◌≡◌, ◌+◌, ◌*◌, ◌≤◌, Ok, length}
use Rattle.std.specs.List.{list_all}
use Rattle.std.specs.Ordering.{is_le}
use Rattle.hx_base.specs.Rows.{row_cmp}
use Rattle.hx_base.specs.declared.row.Row.{Row}
use Rattle.hx_spill.specs.Items.{each}
use Rattle.hx_spill.specs.Splits.{may_follow, row_behind}
use Rattle.hx_spill.proofs.split.rows.read_slice.Given as goal

abbrev pub invariant-loop-index : goal.invariant-loop-index
invariant-loop-index l = record {
  read : each l.index (row_behind l.start l.bytes) ≡ Ok l.found.items;
  follow : (row : Row) → list_all (λ other. is_le (row_cmp other row)) l.found.items ≡ may_follow l.last row;
  place : l.at ≡ l.start + 28 * l.index;
  within : l.at ≤ length l.bytes;
}
