use Rattle.std.proofs.Common.{◌∙◌, [], get_or, sym, ap}
use Rattle.std.proofs.lemmas.List.{get_or_default}
use Rattle.hx_cover.specs.declared.bounds.CoverBox.{CoverBox}
use Rattle.hx_cover.proofs.Runs.{all_over, pushed, widened}
use Rattle.hx_cover.proofs.trees.over_four.Goals as goal
use Rattle.hx_cover.proofs.trees.over_four.Goals.{then-i-eq0+in_ok-push, else-i-eq0}

no_box : CoverBox
no_box = record { pixel = 0; lo = []; hi = [] }

pub loop-i-preserved : goal.loop-i-preserved
unfolding no_box
loop-i-preserved c =
    let boxes = c.args.boxes.now in
    let above = c.loop-i.above.items in
    let i = c.loop-i.i in
    let under = get_or boxes i no_box in
    let is = sym (get_or_default boxes i no_box under c.loop-i-test.true) in
    let sound = c.requires i no_box c.loop-i-test.true in
    elim c.if-i-eq0.branch [
      | then-i-eq0+in_ok-push w ↦ pushed boxes above c.if-i-eq0.above.items i under c.loop-i.invariant is sound w.if-i-eq0.true (ap (λ v. v.items) w.above-is ∙ w.in_ok-push.ensures.items)
      | else-i-eq0 w ↦
          widened boxes above c.if-i-eq0.above.items i under c.loop-i.invariant is sound w.index_mut-last.result.now w.joined.result w.index_mut-last.result.now w.if-i-eq0.false
          w.index_mut-last.ensures.value w.joined.ensures.sound w.joined.ensures.joined (ap (λ v. v.items) w.above-is)
    ]

pub returns-clause-over : goal.returns-clause-over
returns-clause-over c = all_over c.args.boxes.now c.loop-i.above.items c.loop-i.i c.loop-i-test.false c.loop-i.invariant
