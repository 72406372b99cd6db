use Rattle.hx_base.proofs.Ranges.{ends_by_told}
use Rattle.hx_base.proofs.pixel.Pixel.ends_by.Goals as goal

pub returns : goal.returns
returns c = rw c.number_at.ensures (ends_by_told c.args.self.now c.args.position)
