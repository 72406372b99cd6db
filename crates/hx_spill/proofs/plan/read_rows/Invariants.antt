use Rattle.std.proofs.Common.{◌≡◌, ◌≤◌, ℕ, Ok, length, nat_le}
use Rattle.std.specs.List.{All, AllPairs, list_all}
use Rattle.hx_base.specs.Pixels.{IsPixel, end_position, first_position}
use Rattle.hx_align.specs.Plans.{IsPlanRow, pixels_of}
use Rattle.hx_spill.specs.Items.{each}
use Rattle.hx_spill.specs.Plans.{place_of_row, row_behind}
use Rattle.hx_spill.proofs.plan.read_rows.Given as goal

abbrev pub invariant-loop-index : goal.invariant-loop-index
invariant-loop-index l = record {
  read : each l.index (row_behind l.bytes) ≡ Ok l.rows.items;
  exist : All IsPixel (pixels_of l.rows.items);
  ascend : AllPairs (λ a b. end_position a ≤ first_position b) (pixels_of l.rows.items);
  rows_fit : All IsPlanRow l.rows.items;
  below : (position : ℕ) → list_all (λ other. nat_le (end_position other.pixel) position) l.rows.items ≡ nat_le l.least position;
  place : l.at ≡ place_of_row l.index;
  within : l.at ≤ length l.bytes;
}
