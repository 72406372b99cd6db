use Rattle.hx_outside.proofs.Runs.{one_file_next}
use Rattle.hx_outside.proofs.laws.one_file_twice.Goals as goal

pub returns : goal.returns
returns g c old mid new name tells run call = one_file_next g.S.Store.disk old mid new name tells run call
