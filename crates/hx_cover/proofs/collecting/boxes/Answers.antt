use Rattle.std.proofs.Common.{[], List, subst, sym}
use Rattle.hx_cover.specs.TooNear.{AreBoxes}
use Rattle.hx_cover.specs.declared.bounds.CoverBox.{CoverBox}
use Rattle.hx_cover.proofs.AddingRows.{nothing}
use Rattle.hx_cover.proofs.collecting.boxes.Goals as goal

pub returns-clause-boxes : goal.returns-clause-boxes
returns-clause-boxes c =
    let none = subst (λ (xs : List CoverBox). AreBoxes c.args.order [] xs) (sym c.new-boxes.ensures.items) (nothing c.args.order) in
    c.in_ok-add_boxes.ensures.added [] none
