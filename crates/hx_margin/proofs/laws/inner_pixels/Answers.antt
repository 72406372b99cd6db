use Rattle.hx_margin.proofs.Blocks.{inner_stays}
use Rattle.hx_margin.proofs.laws.inner_pixels.Goals as goal

pub returns : goal.returns
returns c = inner_stays c.corners_of_faces.ensures
