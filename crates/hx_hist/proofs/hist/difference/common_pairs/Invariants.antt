use Rattle.std.proofs.Common.{◌≡◌, ◌-◌, ◌≤◌, length, take}
use Rattle.hx_hist.proofs.hist.difference.common_pairs.Given as goal

abbrev pub invariant-loop-common : goal.invariant-loop-common
invariant-loop-common l = record {
  in_kept : l.common ≤ length l.kept;
  in_found : l.common ≤ length l.found;
  same : take l.common l.kept ≡ take l.common l.found;
}

abbrev pub decreases-loop-common : goal.decreases-loop-common
decreases-loop-common l = length l.kept - l.common
