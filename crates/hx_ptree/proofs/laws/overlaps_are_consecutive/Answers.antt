use Rattle.hx_ptree.proofs.Lists.{consecutive}
use Rattle.hx_ptree.proofs.laws.overlaps_are_consecutive.Goals as goal

pub returns : goal.returns
returns c = λ pixels pixel disjoint exists. consecutive pixels disjoint pixel exists
