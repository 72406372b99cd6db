use Rattle.std.proofs.Common.{◌≡◌, ◌<◌, ℕ, All, slice_index, take}
use Rattle.std.specs.List.{sum_by}
use Rattle.hx_hist.specs.Histograms.{count_at, total_of}
use Rattle.hx_hist.proofs.counting.hist_of_table.Given as goal

-- the pixels so far have their counts, and no other has
abbrev pub invariant-loop-pixel : goal.invariant-loop-pixel
invariant-loop-pixel l = record {
  order : l.hist.order ≡ l.order;
  below : All (λ pair. pair.pixel < l.pixel) l.hist.pairs;
  counts : (p : ℕ) → count_at p l.hist.pairs ≡ slice_index (take l.pixel l.table) p;
  total : total_of l.hist.pairs ≡ sum_by (λ n. n) (take l.pixel l.table);
}
