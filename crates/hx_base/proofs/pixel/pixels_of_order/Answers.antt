use Rattle.std.proofs.Common.{arith}
use Rattle.std.proofs.Math.Nat.{pow-le-pow_right}
use Rattle.hx_base.proofs.Powers.{shift_fits}
use Rattle.hx_base.proofs.pixel.pixels_of_order.Goals as goal

pub returns : goal.returns
returns c =
    let most = pow-le-pow_right {n = 4} (omega arith) {i = c.args.order} {j = 29} c.requires in
    shift_fits 12 c.args.order (omega (arith, most))
