use Rattle.std.proofs.Common.{◌^◌, ℕ, List, subst, sym}
use Rattle.std.specs.List.{All}
use Rattle.std.proofs.lemmas.List.Elements.{All-nil, All-push}
use Rattle.hx_cover.specs.Trees.{AreOver, IsLevel}
use Rattle.hx_cover.specs.declared.bounds.CoverBox.{CoverBox}
use Rattle.hx_cover.proofs.Runs.{over_itself}
use Rattle.hx_cover.proofs.trees.levels_over.Goals as goal

pub loop-level-init : goal.loop-level-init
loop-level-init c =
    let right = c.args.right.now in
    record {
      levels = subst (All (IsLevel right)) (sym c.new-levels.ensures.items) (All-nil (IsLevel right));
      level = c.in_ok-level.ensures.level right (over_itself right);
    }

pub loop-level-preserved : goal.loop-level-preserved
loop-level-preserved c =
    let right = c.args.right.now in
    let level = c.loop-level.level in
    let held = c.loop-level.invariant.level in
    let over : AreOver right (2 ^ level.shift) level.boxes.items = subst (λ (w : ℕ). AreOver right w level.boxes.items) held.width held.over in
    record {
      levels = subst (All (IsLevel right)) (sym c.in_ok-push.ensures.items) (All-push (IsLevel right) c.loop-level.levels.items level c.loop-level.invariant.levels held);
      level = c.in_ok-above.ensures.level right (subst (λ (xs : List CoverBox). AreOver right (2 ^ level.shift) xs) (sym c.deref.ensures.value) over);
    }

pub returns : goal.returns
returns c =
    let right = c.args.right.now in
    subst (All (IsLevel right)) (sym c.in_ok-push-2.ensures.items) (All-push (IsLevel right) c.loop-level.levels.items c.loop-level.level c.loop-level.invariant.levels c.loop-level.invariant.level)
