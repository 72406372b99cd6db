use Rattle.std.proofs.Common.{refl}
use Rattle.hx_spill.proofs.Gathered.{gathered_all, gathered_more}
use Rattle.hx_spill.proofs.laws.slices_of_inputs.Goals as goal

pub returns-clause-none : goal.returns-clause-none
returns-clause-none c = λ pixel. refl

pub returns-clause-more : goal.returns-clause-more
returns-clause-more c = gathered_more

pub returns-clause-all_inputs : goal.returns-clause-all_inputs
returns-clause-all_inputs c = gathered_all
