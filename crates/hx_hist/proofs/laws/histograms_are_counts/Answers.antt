use Rattle.hx_hist.proofs.Counts.{same_counts}
use Rattle.hx_hist.proofs.laws.histograms_are_counts.Goals as goal

pub returns : goal.returns
returns c = same_counts
