use Rattle.std.proofs.Common.{pos, get_or, sym}
use Rattle.std.proofs.lemmas.List.{get_or_default}
use Rattle.hx_base.specs.declared.row.Row.{Row}
use Rattle.hx_cover.proofs.AddingRows.{all_added, none_added, one_added}
use Rattle.hx_cover.proofs.collecting.add_boxes.Goals as goal

no_row : Row
no_row = record { hp = 0; id = pos 0; x = pos 0; y = pos 0; z = pos 0 }

pub loop-row-init : goal.loop-row-init
loop-row-init c = none_added c.args.order c.args.boxes.now.items c.args.rows.now c.requires.boxes c.requires.behind

pub add_row-requires-clause-boxes : goal.add_row-requires-clause-boxes
add_row-requires-clause-boxes c = c.loop-row.invariant.cover

pub add_row-requires-clause-behind : goal.add_row-requires-clause-behind
unfolding no_row
add_row-requires-clause-behind c = c.loop-row.invariant.behind no_row c.loop-row-test.true

pub loop-row-preserved : goal.loop-row-preserved
unfolding no_row
loop-row-preserved c =
    let rows = c.args.rows.now in
    let i = c.loop-row.row-index in
    let row = get_or rows i no_row in
    let step = c.in_ok-add_row.ensures in
    one_added c.args.order c.args.boxes.now.items c.loop-row.boxes.items c.add_row.new.boxes.items rows i row c.requires.sorted c.loop-row.invariant c.loop-row-test.true
    (sym (get_or_default rows i no_row row c.loop-row-test.true)) step.boxes step.behind step.added

pub returns-clause-boxes : goal.returns-clause-boxes
returns-clause-boxes c = c.loop-row.invariant.cover

pub returns-clause-added : goal.returns-clause-added
returns-clause-added c = all_added c.args.order c.args.boxes.now.items c.loop-row.boxes.items c.args.rows.now c.loop-row.row-index c.loop-row.invariant c.loop-row-test.false
