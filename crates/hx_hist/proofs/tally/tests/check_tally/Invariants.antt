use Rattle.std.proofs.Common.{◌≡◌, All, length}
use Rattle.hx_base.specs.Rows.{IsGood}
use Rattle.hx_hist.specs.Histograms.{total_of}
use Rattle.hx_hist.proofs.tally.tests.check_tally.Given as goal

abbrev pub invariant-loop-input : goal.invariant-loop-input
invariant-loop-input g l = record {
  order : l.tally.order ≡ l.order;
  good : All IsGood l.all.items;
  total : total_of l.tally.pairs ≡ length l.all.items;
}
