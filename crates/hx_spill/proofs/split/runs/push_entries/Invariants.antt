use Rattle.std.proofs.Common.{◌≡◌, ◌++◌, ◌<◌, ◌^◌, ℕ, slice_index_or, take}
use Rattle.std.specs.List.{flat_map}
use Rattle.hx_spill.specs.Splits.{bytes_of_entry}
use Rattle.hx_spill.specs.declared.split.head.Entry.{Entry}
use Rattle.hx_spill.proofs.split.runs.push_entries.Given as goal

abbrev pub invariant-loop-entry : goal.invariant-loop-entry
invariant-loop-entry l = record {
  written : l.bytes.items ≡ l.fn.bytes.items ++ flat_map bytes_of_entry (take l.entry-index l.entries);
  fit : (k : ℕ) → (d : Entry) → k < l.entry-index → (slice_index_or l.entries k d).part < 2 ^ 32;
}
