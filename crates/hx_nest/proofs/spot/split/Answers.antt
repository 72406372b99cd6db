use Rattle.std.proofs.Common.{◌-◌, ◌*◌, ◌%◌, ◌^◌, ◌<◌, ◌≤◌, arith}
use Rattle.hx_nest.proofs.Interleaved.{face_below, rest_below, shifted_back, whole}
use Rattle.hx_nest.proofs.spot.split.Goals as goal

pub overflow_cast-face-2 : goal.overflow_cast-face-2
overflow_cast-face-2 c = omega (arith, face_below c.args.k c.args.p c.requires.pixel)

pub returns : goal.returns
returns c =
    let k = c.args.k in
    let order : c.args.k ≤ 32 = omega arith in
    let below : c.args.p - c.from.result * 2 ^ (2 * c.args.k) % 2 ^ 64 < 4 ^ c.args.k = rw (c.from.ensures, shifted_back c.args.k c.args.p c.ranges.p.fits) (rest_below c.args.k c.args.p) in
    let range = c.separated-x.ensures.range k order below in
    record {
      face_range = face_below k c.args.p c.requires.pixel;
      x_range = range.0;
      y_range = range.1;
      number = whole k c.args.p c.from.result _ c.ranges.p.fits c.from.ensures (c.separated-x.ensures.number k order below);
    }
