use Rattle.std.proofs.Common.{◌≡◌, ◌≤◌}
use Rattle.hx_hist.specs.Histograms.{total_of}
use Rattle.hx_work.proofs.tests.hist_of.Given as goal

abbrev pub invariant-loop-pair : goal.invariant-loop-pair
invariant-loop-pair l = record {
  order : l.hist.order ≡ 1;
  total : total_of l.hist.pairs ≡ l.total;
  range : l.total ≤ 1001000;
}
