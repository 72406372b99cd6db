use Rattle.std.proofs.Common.{◌≤◌, arith}
use Rattle.hx_nest.proofs.Interleaved.{face_shifted, number_below, joined_below, joined_at}
use Rattle.hx_nest.proofs.spot.join_xy.Goals as goal

pub overflow_add-result : goal.overflow_add-result
overflow_add-result c =
    let order : c.args.k ≤ 32 = omega arith in
    rw (c.from.ensures, c.interleaved.ensures c.args.k order c.requires.x c.requires.y, face_shifted c.args.k c.args.at.face c.requires.order c.requires.face)
    (omega (arith, joined_below c.args.k c.args.at.face c.args.at.x c.args.at.y c.requires.order c.requires.face))

pub returns-clause-spot : goal.returns-clause-spot
returns-clause-spot c =
    let order : c.args.k ≤ 32 = omega arith in
    rw (c.from.ensures, c.interleaved.ensures c.args.k order c.requires.x c.requires.y, face_shifted c.args.k c.args.at.face c.requires.order c.requires.face)
    (joined_at c.args.k c.args.at.face c.args.at.x c.args.at.y c.requires.face c.requires.x c.requires.y)

pub returns-clause-range : goal.returns-clause-range
returns-clause-range c =
    let order : c.args.k ≤ 32 = omega arith in
    rw (c.from.ensures, c.interleaved.ensures c.args.k order c.requires.x c.requires.y, face_shifted c.args.k c.args.at.face c.requires.order c.requires.face)
    (number_below c.args.k _ c.args.at.face c.args.at.x c.args.at.y (joined_at c.args.k c.args.at.face c.args.at.x c.args.at.y c.requires.face c.requires.x c.requires.y))
