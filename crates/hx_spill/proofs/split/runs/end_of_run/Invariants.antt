use Rattle.std.proofs.Common.{◌≡◌, ◌-◌, ◌<◌, ◌≤◌, ℕ, length, slice_index_or}
use Rattle.hx_spill.specs.declared.split.Placed.{Placed}
use Rattle.hx_spill.proofs.split.runs.end_of_run.Given as goal

abbrev pub decreases-loop-end : goal.decreases-loop-end
decreases-loop-end l = length l.rows - l.end

abbrev pub invariant-loop-end : goal.invariant-loop-end
invariant-loop-end l = record {
  some : l.first < l.end;
  within : l.end ≤ length l.rows;
  same : (k : ℕ) → (d : Placed) → l.first ≤ k → k < l.end → (slice_index_or l.rows k d).part ≡ (slice_index_or l.rows l.first d).part;
}
