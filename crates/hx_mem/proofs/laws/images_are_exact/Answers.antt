use Rattle.hx_mem.proofs.Images.{exact}
use Rattle.hx_mem.proofs.laws.images_are_exact.Goals as goal

pub returns : goal.returns
returns c = exact
