use Rattle.hx_spill.proofs.Alone.{has_slices}
use Rattle.hx_spill.proofs.laws.slices_are_read_alone.Goals as goal

pub returns : goal.returns
returns c = has_slices
