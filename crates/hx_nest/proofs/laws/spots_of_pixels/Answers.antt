use Rattle.hx_nest.proofs.Interleaved.{one_place}
use Rattle.hx_nest.proofs.laws.spots_of_pixels.Goals as goal

pub returns : goal.returns
returns c = λ order pixel face x y other a b here there. one_place order pixel face x y other a b here there
