use Rattle.std.proofs.Common.{◌≡◌, ◌+◌, ℕ, length}
use Rattle.hx_hist.specs.Histograms.{count_at, total_of}
use Rattle.hx_hist.specs.Tallies.{AreOfOrder, count_among, total_among}
use Rattle.hx_hist.proofs.tally.lists.push_merged.Given as goal

-- the list and the last histogram have the counts of both at first
abbrev pub invariant-loop-before : goal.invariant-loop-before
invariant-loop-before l = record {
  order : l.last.order ≡ l.fn.hist.order;
  orders : AreOfOrder l.fn.hist.order l.hists.items;
  counts : (p : ℕ) → count_among p l.hists.items + count_at p l.last.pairs ≡ count_among p l.fn.hists.items + count_at p l.fn.hist.pairs;
  total : total_among l.hists.items + total_of l.last.pairs ≡ total_among l.fn.hists.items + total_of l.fn.hist.pairs;
}

abbrev pub decreases-loop-before : goal.decreases-loop-before
decreases-loop-before l = length l.hists.items
