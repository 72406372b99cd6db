use Rattle.hx_nest.proofs.Parents.{parents_touch}
use Rattle.hx_nest.proofs.laws.parents_of_touching.Goals as goal

pub returns : goal.returns
returns c = parents_touch
