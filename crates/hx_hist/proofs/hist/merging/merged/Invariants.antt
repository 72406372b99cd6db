use Rattle.std.proofs.Common.{◌≡◌, ◌+◌, ◌-◌, ◌<◌, ◌≤◌, length}
use Rattle.hx_hist.proofs.Merging.{IsMerged}
use Rattle.hx_hist.proofs.hist.merging.merged.Given as goal

abbrev pub invariant-loop-i : goal.invariant-loop-i
invariant-loop-i l = record {
  order : l.all.order ≡ l.fn.order;
  merged : IsMerged l.left l.right l.i l.j l.all.pairs;
}

abbrev pub decreases-loop-i : goal.decreases-loop-i
decreases-loop-i l = (length l.left - l.i) + (length l.right - l.j)

-- one list is used up
abbrev pub invariant-loop-i-2 : goal.invariant-loop-i-2
invariant-loop-i-2 l = record {
  order : l.all.order ≡ l.fn.order;
  merged : IsMerged l.left l.right l.i l.j l.all.pairs;
  one_left : l.i < length l.left → length l.right ≤ l.j;
}

abbrev pub decreases-loop-i-2 : goal.decreases-loop-i-2
decreases-loop-i-2 l = length l.left - l.i

abbrev pub invariant-loop-j : goal.invariant-loop-j
invariant-loop-j l = record {
  order : l.all.order ≡ l.fn.order;
  merged : IsMerged l.fn.left l.right l.i l.j l.all.pairs;
  left_done : length l.fn.left ≤ l.i;
}

abbrev pub decreases-loop-j : goal.decreases-loop-j
decreases-loop-j l = length l.right - l.j
