use Rattle.hx_spill.proofs.Told.{has_head}
use Rattle.hx_spill.proofs.laws.heads_tell_slices.Goals as goal

pub returns : goal.returns
returns c = has_head
