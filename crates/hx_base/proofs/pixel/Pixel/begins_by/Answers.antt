use Rattle.hx_base.proofs.Ranges.{begins_by_told}
use Rattle.hx_base.proofs.pixel.Pixel.begins_by.Goals as goal

pub returns : goal.returns
returns c = rw c.number_at.ensures (begins_by_told c.args.self.now c.args.position)
