use Rattle.std.proofs.Common.{◌≡◌, ◌-◌, ◌/◌, ◌^◌, All, take}
use Rattle.hx_hist.specs.Histograms.{total_of}
use Rattle.hx_align.proofs.descent.first_run.Given as goal

abbrev pub invariant-loop-i : goal.invariant-loop-i
invariant-loop-i l = record {
  run : All (λ pair. pair.pixel / 4 ^ (l.highest - l.lowest) ≡ l.pixel.number) (take l.i l.pairs);
  count : l.count ≡ total_of (take l.i l.pairs);
}
