use Rattle.std.proofs.Common.{◌<◌, ◌++◌, [], List, false, length, get_or, refl, sym, ap, subst, arith}
use Rattle.std.proofs.lemmas.List.Elements.{All-append, All-nil, All-same}
use Rattle.std.proofs.lemmas.Option.{slice_get-get_or}
use Rattle.hx_base.specs.Pixels.{PixelContains, first_position}
use Rattle.hx_base.specs.declared.row.Row.{Row}
use Rattle.hx_outside.specs.Folders.{Folder, Same}
use Rattle.hx_outside.proofs.Runs.{same_next, stands}
use Rattle.hx_xmatch.specs.Files.{HasRowsAt, name_of}
use Rattle.hx_xmatch.proofs.BoxLemmas.{next_behind, no_boxes, no_cover, no_pixel, rows_before}
use Rattle.hx_xmatch.proofs.Listing.{listed_more}
use Rattle.hx_xmatch.proofs.coverage.boxes_of.Goals as goal

pub loop-part-init : goal.loop-part-init
loop-part-init g c = record {
  passes = λ tells. stands g.S.Store.disk c.args.store.now Same tells (λ f. refl);
  later = omega arith;
  cover = no_cover c.args.order c.new-boxes.result.items c.new-boxes.ensures.items;
  rows = ([], no_boxes c.args.order c.new-boxes.result.items c.new-boxes.ensures.items, λ index pixel le at. All-nil (λ (row : Row). row.hp < first_position pixel), λ tells. refl);
}

pub returns-in_err-rows-clause-unchanged : goal.returns-in_err-rows-clause-unchanged
returns-in_err-rows-clause-unchanged g c tells =
    let run = c.loop-part.invariant.passes tells in
    same_next g.S.Store.disk _ _ _ tells run (c.load.ensures.unchanged run.told)

pub returns-in_err-add_boxes-clause-unchanged : goal.returns-in_err-add_boxes-clause-unchanged
returns-in_err-add_boxes-clause-unchanged g c tells =
    let run = c.loop-part.invariant.passes tells in
    same_next g.S.Store.disk _ _ _ tells run (c.load.ensures.unchanged run.told)

pub add_boxes-requires-clause-behind : goal.add_boxes-requires-clause-behind
add_boxes-requires-clause-behind g c =
    let parts = c.args.catalogue.now.parts in
    let part = c.loop-part.part in
    let pixel = get_or parts part no_pixel in
    let lt : part < length parts = omega (arith, c.loop-part-test.true, ap length c.parts-part-end.ensures.parts) in
    let at = slice_get-get_or parts part no_pixel lt in
    let file = c.deref.result.now in
    let inside = All-same (PixelContains pixel) file c.in_ok-rows.rows.items c.deref.ensures.value (c.in_ok-rows.ensures.inside refl pixel at) in
    let (rows, are, before, told) = c.loop-part.invariant.rows in
    next_behind c.args.order pixel rows file c.loop-part.boxes.items are (before part pixel (omega arith) at) inside

pub loop-part-preserved : goal.loop-part-preserved
loop-part-preserved g c =
    let d = g.S.Store.disk in
    let catalogue = c.args.catalogue.now in
    let parts = catalogue.parts in
    let part = c.loop-part.part in
    let pixel = get_or parts part no_pixel in
    let lt : part < length parts = omega (arith, c.loop-part-test.true, ap length c.parts-part-end.ensures.parts) in
    let at = slice_get-get_or parts part no_pixel lt in
    let file = c.deref.result.now in
    let inside = All-same (PixelContains pixel) file c.in_ok-rows.rows.items c.deref.ensures.value (c.in_ok-rows.ensures.inside refl pixel at) in
    let (rows, are, before, told) = c.loop-part.invariant.rows in
    record {
      passes = λ tells. let run = c.loop-part.invariant.passes tells in same_next d _ _ _ tells run (c.load.ensures.unchanged run.told);
      later = omega (arith, c.loop-part.invariant.later, c.load.ensures.cause.later);
      cover = c.in_ok-add_boxes.ensures.boxes;
      rows = (
        rows ++ file,
        c.in_ok-add_boxes.ensures.added rows are,
        λ index later le at_later.
            All-append (λ (row : Row). row.hp < first_position later) rows file (before index later (omega (arith, le)) at_later)
            (rows_before parts part index pixel later file c.parts-part-end.ensures.list.disjoint (omega (arith, le)) at at_later inside),
        λ tells.
            let run = c.loop-part.invariant.passes tells in
            let (other, at_other, has) = subst (λ (h : Folder). HasRowsAt h catalogue part false file) run.seen
            (subst (λ (l : List Row). HasRowsAt (d.reads c.loop-part.store) catalogue part false l) (sym c.deref.ensures.value) (c.in_ok-rows.ensures.loaded run.told)) in
            listed_more (d.reads c.args.store.now) (name_of catalogue) false parts part other rows file at_other (told tells) has,
      );
    }
