use Rattle.hx_outside.specs.Folders.{SameBut}
use Rattle.hx_outside.proofs.Runs.{stable_over}
use Rattle.hx_outside.proofs.laws.stable_files_stay.Goals as goal

pub returns : goal.returns
returns g c old new name other apart run stable = stable_over g.S.Store.disk old new other (SameBut name) (λ f h same. same other apart) run stable
