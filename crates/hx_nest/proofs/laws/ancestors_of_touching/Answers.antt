use Rattle.hx_nest.proofs.Parents.{ancestors_touch}
use Rattle.hx_nest.proofs.laws.ancestors_of_touching.Goals as goal

pub returns : goal.returns
returns c = λ order steps p q. ancestors_touch steps order p q
