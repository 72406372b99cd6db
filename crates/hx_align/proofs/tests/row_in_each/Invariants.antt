use Rattle.std.proofs.Common.{◌≡◌}
use Rattle.hx_hist.specs.Histograms.{total_of}
use Rattle.hx_align.proofs.tests.row_in_each.Given as goal

abbrev pub invariant-loop-pixel : goal.invariant-loop-pixel
invariant-loop-pixel l = record {
  order : l.hist.order ≡ 9;
  total : total_of l.hist.pairs ≡ l.pixel;
}
