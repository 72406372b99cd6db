use Rattle.std.proofs.Common.{◌*◌, ◌≤◌}
use Rattle.hx_hist.specs.Histograms.{total_of}
use Rattle.hx_hist.proofs.tally.tests.check_last_position.Given as goal

abbrev pub invariant-loop : goal.invariant-loop
invariant-loop g l = total_of l.tally.pairs ≤ 2 * l.counter
