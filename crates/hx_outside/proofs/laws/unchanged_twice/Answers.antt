use Rattle.hx_outside.proofs.Runs.{same_next}
use Rattle.hx_outside.proofs.laws.unchanged_twice.Goals as goal

pub returns : goal.returns
returns g c old mid new tells run call = same_next g.S.Store.disk old mid new tells run call
