use Rattle.std.proofs.Common.{length}
use Rattle.hx_kd.proofs.halves.+halve.Given as goal

abbrev pub decreases-halve : goal.decreases-halve
decreases-halve l = length l.nodes.now
