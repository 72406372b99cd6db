use Rattle.hx_nest.proofs.Law.{one_corner, one_point}
use Rattle.hx_nest.proofs.laws.corners_of_faces.Goals as goal

pub returns : goal.returns
returns c = λ n face x y other a b pos hf hg hx hy ha hb. (one_corner n x y a b pos hx hy ha hb face hf other hg, one_point n face x y other a b pos hf hg hx hy)
