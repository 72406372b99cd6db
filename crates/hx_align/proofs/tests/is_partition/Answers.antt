use Rattle.std.proofs.Common.{arith}
use Rattle.hx_base.specs.Pixels.{IsPixel}
use Rattle.hx_base.proofs.Partitions.{parent_exists}
use Rattle.hx_align.proofs.tests.is_partition.Goals as goal

pub total_in-requires-clause-number : goal.total_in-requires-clause-number
total_in-requires-clause-number c =
    let here : IsPixel c.args.pixel = record { order = omega arith; number = c.requires.number } in
    let parent = parent_exists c.args.pixel (omega arith) here in
    parent.number
