use Rattle.std.proofs.Common.{◌∷◌, [], get_or}
use Rattle.std.proofs.lemmas.List.{get_or_default}
use Rattle.hx_cover.specs.declared.bounds.CoverBox.{CoverBox}
use Rattle.hx_cover.proofs.NearPixels.{first_none, found_in, more_none, whole_none}
use Rattle.hx_cover.proofs.nearness.first_too_near.Goals as goal

no_box : CoverBox
no_box = record { pixel = 0; lo = []; hi = [] }

pub returns-in-Some : goal.returns-in-Some
unfolding no_box
returns-in-Some c =
    let left = c.args.left.now in
    let n = c.loop-a.a-index in
    let a = get_or left n no_box in
    found_in c.args.tree.now c.args.margin_order c.args.r2 n a left c.args.right.now c.loop-a.invariant c.loop-a-test.true (get_or_default left n no_box a c.loop-a-test.true) c.in-Some.found c.requires.left.ordered c.in-Some.ensures

pub loop-a-preserved : goal.loop-a-preserved
unfolding no_box
loop-a-preserved c =
    let left = c.args.left.now in
    let n = c.loop-a.a-index in
    let a = get_or left n no_box in
    let none = first_none c.args.tree.now c.args.margin_order c.args.r2 (a ∷ []) c.args.right.now c.first_too_near_to.result c.first_too_near_to.ensures c.in_default.not-Some in
    more_none c.args.tree.now c.args.margin_order c.args.r2 n a left c.args.right.now c.loop-a.invariant c.loop-a-test.true (get_or_default left n no_box a c.loop-a-test.true) none

pub returns : goal.returns
returns c = whole_none c.args.tree.now c.args.margin_order c.args.r2 c.loop-a.a-index c.args.left.now c.args.right.now c.loop-a.invariant c.loop-a-test.false
