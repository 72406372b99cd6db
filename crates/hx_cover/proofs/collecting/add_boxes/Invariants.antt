use Rattle.hx_cover.proofs.AddingRows.{AreAdded}
use Rattle.hx_cover.proofs.collecting.add_boxes.Given as goal

abbrev pub invariant-loop-row : goal.invariant-loop-row
invariant-loop-row l = AreAdded l.order l.initial.boxes.items l.rows l.row-index l.boxes.items
