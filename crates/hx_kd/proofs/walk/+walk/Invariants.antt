use Rattle.std.proofs.Common.{length}
use Rattle.hx_kd.proofs.walk.+walk.Given as goal

abbrev pub decreases-walk : goal.decreases-walk
decreases-walk l = length l.nodes.now
