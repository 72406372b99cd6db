use Rattle.hx_margin.proofs.Whole.{gathered_margin, gathered_splits}
use Rattle.hx_margin.proofs.laws.margins_whole.Goals as goal

pub returns-clause-slices : goal.returns-clause-slices
returns-clause-slices c = gathered_margin

pub returns-clause-splits : goal.returns-clause-splits
returns-clause-splits c = gathered_splits
