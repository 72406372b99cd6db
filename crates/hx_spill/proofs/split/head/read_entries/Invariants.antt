use Rattle.std.proofs.Common.{◌≡◌, ◌+◌, ◌^◌, ◌<◌, ◌≤◌, ◌⊎◌, ℕ, List, Ok, length, nat_le, nat_lt}
use Rattle.std.specs.List.{list_all}
use Rattle.std.specs.Prelude.{IfSome}
use Rattle.hx_spill.specs.Items.{each}
use Rattle.hx_spill.specs.Splits.{entry_behind, place_of_entry, place_of_row, entry_of, rows_of}
use Rattle.hx_spill.specs.declared.split.head.Entry.{Entry}
use Rattle.hx_spill.proofs.split.head.read_entries.Given as goal

abbrev pub invariant-loop-index : goal.invariant-loop-index
invariant-loop-index l = record {
  entries : List Entry;
  read : each l.index (entry_behind l.n l.bytes) ≡ Ok entries;
  count : l.head.entries ≡ l.n;
  rows : l.head.rows ≡ rows_of entries;
  found : l.head.found ≡ entry_of l.part entries;
  below : (part : ℕ) → list_all (λ other. nat_lt other.part part) entries ≡ nat_le l.least part;
  place : l.at ≡ place_of_entry l.index;
  within : l.at ≤ length l.bytes;
  fits : ((l.index ≡ 0) × (l.head.rows ≡ 0)) ⊎ (place_of_row l.n l.head.rows < 2 ^ 64);
  found_fits : IfSome l.head.found (λ entry. entry.first + entry.rows ≤ l.head.rows);
}
