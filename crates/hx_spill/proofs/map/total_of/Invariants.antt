use Rattle.std.proofs.Common.{◌≡◌, take}
use Rattle.hx_hist.specs.Histograms.{total_of}
use Rattle.hx_spill.proofs.map.total_of.Given as goal

abbrev pub invariant-loop-pair : goal.invariant-loop-pair
invariant-loop-pair l = l.total ≡ total_of (take l.pair-index l.pairs)
