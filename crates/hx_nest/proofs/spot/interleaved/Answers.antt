use Rattle.hx_nest.proofs.Spread.{both}
use Rattle.hx_nest.proofs.spot.interleaved.Goals as goal

pub returns : goal.returns
returns c = λ k order x y. rw (c.spread.ensures k order x, c.spread-2.ensures k order y) (both k c.args.x c.args.y order)
