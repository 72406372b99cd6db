use Rattle.hx_spill.proofs.Counted.{counts_all, counts_more, counts_none}
use Rattle.hx_spill.proofs.laws.counts_of_inputs.Goals as goal

pub returns-clause-none : goal.returns-clause-none
returns-clause-none c = counts_none

pub returns-clause-more : goal.returns-clause-more
returns-clause-more c = counts_more

pub returns-clause-all_inputs : goal.returns-clause-all_inputs
returns-clause-all_inputs c = counts_all
