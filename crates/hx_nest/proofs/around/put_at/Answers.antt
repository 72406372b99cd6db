use Rattle.std.proofs.Common.{arith}
use Rattle.hx_nest.proofs.Lists.{put}
use Rattle.hx_nest.proofs.around.put_at.Goals as goal

pub returns : goal.returns
returns c = put c.args.pixels.now c.rotate_right.new.self c.args.count c.args.index c.args.pixel (omega arith) c.requires.index c.rotate_right.ensures.after
