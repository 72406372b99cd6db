use Rattle.hx_base.proofs.Powers.{pixel_below}
use Rattle.hx_base.proofs.pixel.Pixel.holding.Goals as goal

pub returns-clause-exists : goal.returns-clause-exists
returns-clause-exists c = rw c.number_at.ensures (record { order = c.requires.order; number = pixel_below c.args.order c.args.position c.requires.order c.requires.position })
