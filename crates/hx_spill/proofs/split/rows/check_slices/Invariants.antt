use Rattle.std.proofs.Common.{◌≡◌, ◌≤◌, ℕ, List, Ok, length, nat_le, nat_lt, take, drop}
use Rattle.std.specs.List.{list_all}
use Rattle.hx_spill.specs.Items.{each}
use Rattle.hx_spill.specs.Splits.{entry_behind, head_in, looked_at, place_of_entry, place_of_row, placed_in, rows_of}
use Rattle.hx_spill.specs.declared.split.head.Entry.{Entry}
use Rattle.hx_spill.proofs.split.rows.check_slices.Given as goal

abbrev pub invariant-loop-index : goal.invariant-loop-index
invariant-loop-index l = record {
  entries : List Entry;
  head : head_in l.bytes ≡ Ok entries;
  read : each l.n (entry_behind l.n l.bytes) ≡ Ok entries;
  before : l.before ≡ rows_of (take l.index entries);
  below : (part : ℕ) → list_all (λ other. nat_lt other.part part) (take l.index entries) ≡ nat_le l.least part;
  left : looked_at (placed_in l.n l.bytes entries) ≡ looked_at (placed_in l.n l.bytes (drop l.index entries));
  place : l.at ≡ place_of_entry l.index;
  within : place_of_entry l.n ≤ length l.bytes;
  row_place : l.row_place ≡ place_of_row l.n l.before;
  row_within : l.row_place ≤ length l.bytes;
}
