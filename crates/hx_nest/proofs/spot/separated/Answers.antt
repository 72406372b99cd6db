use Rattle.std.proofs.Common.{◌/◌, ◌^◌, ◌<◌, arith}
use Rattle.hx_nest.proofs.Spread.{back, even_below}
use Rattle.hx_nest.proofs.spot.separated.Goals as goal

pub returns-clause-number : goal.returns-clause-number
returns-clause-number c = λ k order small.
    let half : c.args.number / 2 < 4 ^ k = omega arith in
    rw (c.gathered.ensures k order small, c.gathered-2.ensures k order half) (back k c.args.number small)

pub returns-clause-range : goal.returns-clause-range
returns-clause-range c = λ k order small.
    let half : c.args.number / 2 < 4 ^ k = omega arith in
    (rw (c.gathered.ensures k order small) (even_below k c.args.number), rw (c.gathered-2.ensures k order half) (even_below k (c.args.number / 2)))
