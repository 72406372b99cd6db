use Rattle.std.proofs.Common.{◌-◌, ◌<◌, ◌≤◌, ℕ, length, slice_index_or, take}
use Rattle.std.specs.List.{All, AllPairs}
use Rattle.hx_spill.specs.Splits.{Tell}
use Rattle.hx_spill.specs.declared.split.Placed.{Placed}
use Rattle.hx_spill.proofs.split.runs.entries_of.Given as goal

abbrev pub decreases-loop-first : goal.decreases-loop-first
decreases-loop-first l = length l.rows - l.first

abbrev pub invariant-loop-first : goal.invariant-loop-first
invariant-loop-first l = record {
  within : l.first ≤ length l.rows;
  tell : Tell 0 l.entries.items (take l.first l.rows);
  ascend : AllPairs (λ a b. a.part < b.part) l.entries.items;
  below : All (λ entry. (k : ℕ) → (d : Placed) → l.first ≤ k → k < length l.rows → entry.part < (slice_index_or l.rows k d).part) l.entries.items;
}
