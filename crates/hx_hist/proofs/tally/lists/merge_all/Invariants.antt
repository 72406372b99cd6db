use Rattle.std.proofs.Common.{◌≡◌, ◌+◌, ℕ, length}
use Rattle.hx_hist.specs.Histograms.{count_at, total_of}
use Rattle.hx_hist.specs.Tallies.{AreOfOrder, count_among, total_among}
use Rattle.hx_hist.proofs.tally.lists.merge_all.Given as goal

-- what is left and what is merged have the counts of all
abbrev pub invariant-loop-hist : goal.invariant-loop-hist
invariant-loop-hist l = record {
  order : l.all.order ≡ l.order;
  orders : AreOfOrder l.order l.hists.items;
  counts : (p : ℕ) → count_among p l.hists.items + count_at p l.all.pairs ≡ count_among p l.fn.hists.items;
  total : total_among l.hists.items + total_of l.all.pairs ≡ total_among l.fn.hists.items;
}

abbrev pub decreases-loop-hist : goal.decreases-loop-hist
decreases-loop-hist l = length l.hists.items
