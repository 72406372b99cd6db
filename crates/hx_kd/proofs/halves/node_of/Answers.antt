use Rattle.std.proofs.Common.{rules, w32}
use Rattle.std.proofs.lemmas.Int.{to_z-of_z}
use Rattle.hx_kd.specs.Axes.{coordinate}
use Rattle.hx_kd.proofs.Halving.{parted}
use Rattle.hx_kd.proofs.halves.node_of.Goals as goal

pub returns : goal.returns
returns c =
    rw (to_z-of_z w32 c.of.result (search rules), c.of.ensures) (parted (coordinate c.args.axis) c.args.rows.now _ c.requires.some c.requires.rising)
