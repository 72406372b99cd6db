use Rattle.std.proofs.Common.{◌≡◌, ◌+◌, ◌*◌, ◌^◌, ◌<◌, ℕ, length, slice_index, take}
use Rattle.std.specs.List.{sum_by}
use Rattle.hx_base.specs.Pixels.{count_in}
use Rattle.hx_hist.proofs.counting.count_into.Given as goal

-- the table counts the rows so far too
abbrev pub invariant-loop-row : goal.invariant-loop-row
invariant-loop-row l = record {
  length : length l.table ≡ length l.fn.table;
  counts : (p : ℕ) → p < 12 * 4 ^ l.order → slice_index l.table p ≡ slice_index l.fn.table p + count_in (record { order = l.order; number = p }) (take l.row-index l.rows);
  sum : sum_by (λ n. n) l.table ≡ sum_by (λ n. n) l.fn.table + l.row-index;
}
