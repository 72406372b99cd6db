use Rattle.hx_cover.specs.Bounds.{joined_box}
use Rattle.hx_cover.specs.CoverBoxes.{box_seen}
use Rattle.hx_cover.proofs.Unions.{ends, high_kept, low_kept, sound_seen, three}
use Rattle.hx_cover.proofs.bounds.joined.Goals as goal

pub returns-clause-joined : goal.returns-clause-joined
returns-clause-joined c =
    let a = box_seen c.args.a.now in
    let b = box_seen c.args.b.now in
    let ga = c.requires.a in
    let gb = c.requires.b in
    three _ _ _ (joined_box a b)
    (ends _ _ (joined_box a b).x (low_kept a.x.low b.x.low c.min.result ga.x.bounded.low gb.x.bounded.low c.min.ensures.value) (high_kept a.x.high b.x.high c.max.result ga.x.bounded.high gb.x.bounded.high c.max.ensures.value))
    (ends _ _ (joined_box a b).y (low_kept a.y.low b.y.low c.min-2.result ga.y.bounded.low gb.y.bounded.low c.min-2.ensures.value) (high_kept a.y.high b.y.high c.max-2.result ga.y.bounded.high gb.y.bounded.high c.max-2.ensures.value))
    (ends _ _ (joined_box a b).z (low_kept a.z.low b.z.low c.min-3.result ga.z.bounded.low gb.z.bounded.low c.min-3.ensures.value) (high_kept a.z.high b.z.high c.max-3.result ga.z.bounded.high gb.z.bounded.high c.max-3.ensures.value))

pub returns-clause-sound : goal.returns-clause-sound
returns-clause-sound c = sound_seen c.args.a.now c.args.b.now _ c.requires.a c.requires.b (returns-clause-joined c)
