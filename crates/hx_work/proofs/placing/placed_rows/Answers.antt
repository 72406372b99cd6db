use Rattle.std.proofs.Common.{◌≡◌, List, arith, subst, take}
use Rattle.std.proofs.lemmas.List.{take_all}
use Rattle.hx_base.specs.declared.pixel.Pixel.{Pixel}
use Rattle.hx_base.specs.declared.row.Row.{Row}
use Rattle.hx_align.specs.Plans.{pixels_of}
use Rattle.hx_work.specs.Places.{Places}
use Rattle.hx_work.proofs.InPlace.{good_places, places_next, split_of_places}
use Rattle.hx_work.proofs.placing.placed_rows.Goals as goal

pub loop-row-preserved : goal.loop-row-preserved
loop-row-preserved c =
    places_next c.pixels-parts.result.now c.args.rows.now c.loop-row.row-index _ c.loop-row.placed.items c.place.new.placed.items c.part_of-part.result c.loop-row-test.true c.loop-row.invariant c.part_of-part.ensures c.in_ok-place.ensures

pub returns-clause-split : goal.returns-clause-split
returns-clause-split c =
    let whole : take c.loop-row.row-index c.args.rows.now ≡ c.args.rows.now = take_all c.loop-row.row-index c.args.rows.now (omega arith) in
    let places = subst (λ (rows : List Row). Places c.pixels-parts.result.now rows c.loop-row.placed.items) whole c.loop-row.invariant in
    let of_plan = subst (λ (parts : List Pixel). Places parts c.args.rows.now c.loop-row.placed.items) c.pixels-parts.ensures places in
    split_of_places (pixels_of c.args.plan.now) c.rows-rows.ensures.plan.disjoint c.args.rows.now c.loop-row.placed.items c.requires.sorted c.requires.good of_plan

pub returns-clause-good : goal.returns-clause-good
returns-clause-good c =
    let whole : take c.loop-row.row-index c.args.rows.now ≡ c.args.rows.now = take_all c.loop-row.row-index c.args.rows.now (omega arith) in
    let places = subst (λ (rows : List Row). Places c.pixels-parts.result.now rows c.loop-row.placed.items) whole c.loop-row.invariant in
    let of_plan = subst (λ (parts : List Pixel). Places parts c.args.rows.now c.loop-row.placed.items) c.pixels-parts.ensures places in
    good_places (pixels_of c.args.plan.now) c.rows-rows.ensures.plan.disjoint c.args.rows.now c.loop-row.placed.items c.requires.good of_plan
