use Rattle.std.proofs.Common.{[]}
use Rattle.hx_kd.proofs.Keeping.{told, told_chord}
use Rattle.hx_kd.proofs.tree.Kd.nearest.Goals as goal

pub returns-clause-nearest : goal.returns-clause-nearest
returns-clause-nearest c =
    let kept = rw c.new-from.ensures at (c.walk.ensures c.args.r2 [] (c.within-best.ensures c.new-from.result.row)) in
    rw (c.near_of.ensures, ← c.self.view_is, ← c.as_slice.ensures.value) (told c.args.row.now c.args.r2 _ c.walk.new.best.limit c.walk.new.best.found kept.nearest)

pub returns-clause-chord : goal.returns-clause-chord
returns-clause-chord c =
    let kept = rw c.new-from.ensures at (c.walk.ensures c.args.r2 [] (c.within-best.ensures c.new-from.result.row)) in
    rw c.near_of.ensures (told_chord c.args.row.now c.args.r2 c.walk.new.best.limit c.walk.new.best.found kept.limit)
