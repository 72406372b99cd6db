use Rattle.std.proofs.Common.{◌≡◌, ◌==◌, ℕ, count_by, take}
use Rattle.hx_hist.specs.Histograms.{count_at, total_of}
use Rattle.hx_hist.proofs.counting.count_sorted.Given as goal

abbrev pub invariant-loop-pixel : goal.invariant-loop-pixel
invariant-loop-pixel l = record {
  order : l.hist.order ≡ l.order;
  total : total_of l.hist.pairs ≡ l.pixel-index;
  counts : (p : ℕ) → count_at p l.hist.pairs ≡ count_by (λ pixel. pixel == p) (take l.pixel-index l.pixel-items);
}
