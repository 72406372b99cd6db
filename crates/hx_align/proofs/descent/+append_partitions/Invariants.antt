use Rattle.std.proofs.Common.{◌-◌, ◌≤◌, length, take}
use Rattle.hx_hist.specs.Histograms.{total_in}
use Rattle.hx_align.specs.Plans.{AppendsPlan}
use Rattle.hx_align.proofs.Runs.{IsParted}
use Rattle.hx_align.proofs.descent.+append_partitions.Given as goal

abbrev pub decreases-append_partitions : goal.decreases-append_partitions
decreases-append_partitions l = l.highest - l.lowest

-- the pairs before the start are planned
abbrev pub invariant-loop-start : goal.invariant-loop-start
invariant-loop-start l = record {
  within : l.start ≤ length l.pairs;
  parted : IsParted (l.highest - l.lowest) l.start l.pairs;
  plan : AppendsPlan (λ pixel. total_in pixel l.highest (take l.start l.pairs)) l.lowest l.highest l.threshold l.fn.rows.items l.rows.items;
}

abbrev pub decreases-loop-start : goal.decreases-loop-start
decreases-loop-start l = length l.pairs - l.start
