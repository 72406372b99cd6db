use Rattle.std.proofs.Common.{[], get_or, arith}
use Rattle.std.proofs.lemmas.List.{get_or_default}
use Rattle.hx_cover.specs.declared.bounds.CoverBox.{CoverBox}
use Rattle.hx_cover.proofs.NearPixels.{found_to, more_to}
use Rattle.hx_cover.proofs.nearness.first_too_near_to.Goals as goal
use Rattle.hx_cover.proofs.nearness.first_too_near_to.Goals.{else-gap2-r2-via-then-gap2-r2+else-not-are_near, else-gap2-r2-via-else-gap2-r2}

no_box : CoverBox
no_box = record { pixel = 0; lo = []; hi = [] }

pub returns-then-not-are_near : goal.returns-then-not-are_near
unfolding no_box
returns-then-not-are_near c =
    let right = c.args.right.now in
    let n = c.loop-b.b-index in
    let b = get_or right n no_box in
    found_to c.args.tree.now c.args.margin_order c.args.r2 n c.gap2-gap2.result c.args.a.now b right c.loop-b.invariant c.loop-b-test.true (get_or_default right n no_box b c.loop-b-test.true) c.requires.right.ordered
    c.gap2-gap2.ensures c.if-gap2-r2.true (λ near. let t = c.are_near.ensures.1 near in let f = c.if-not-are_near.true in absurd (let g = f in cc))

pub loop-b-preserved : goal.loop-b-preserved
unfolding no_box
loop-b-preserved c =
    let right = c.args.right.now in
    let n = c.loop-b.b-index in
    let b = get_or right n no_box in
    more_to c.args.tree.now c.args.margin_order c.args.r2 n c.args.a.now b right c.loop-b.invariant c.loop-b-test.true (get_or_default right n no_box b c.loop-b-test.true)
    (elim c.else-gap2-r2.branch [
      | else-gap2-r2-via-then-gap2-r2+else-not-are_near w ↦ λ h. h.apart (w.are_near.ensures.0 (w.if-not-are_near.false))
      | else-gap2-r2-via-else-gap2-r2 w ↦ λ h. let le = h.within in let gap = c.gap2-gap2.ensures in let past = w.if-gap2-r2.false in omega (arith, le, gap, past)
    ])
