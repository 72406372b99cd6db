use Rattle.std.proofs.Common.{◌<◌, ℕ, arith, length, slice_index, subst, sym, refl}
use Rattle.std.proofs.lemmas.List.Elements.{Contains-get_or}
use Rattle.hx_base.specs.Pixels.{IsPixel}
use Rattle.hx_ptree.specs.Searches.{IsSpan}
use Rattle.hx_margin.specs.Beside.{margin_pixel}
use Rattle.hx_margin.proofs.Spans.{all_reached, none_reached, one_reached, touched_exists}
use Rattle.hx_margin.proofs.collecting.parts_around.Goals as goal

pub overlapping-span-requires : goal.overlapping-span-requires
overlapping-span-requires c =
    let around = c.neighbours-around.result in
    let k = c.args.part.order in
    let inside : c.loop-i.i < length around = let lt = c.loop-i-test.true in let size = c.count-i-end.ensures.value in omega (arith, lt, size) in
    let touch = (c.neighbours-around.ensures.touching (slice_index around c.loop-i.i)).0 (Contains-get_or around c.loop-i.i 0 inside) in
    let there : IsPixel (margin_pixel k (slice_index around c.loop-i.i)) = record { order = c.requires.order; number = touched_exists k c.args.part.number (slice_index around c.loop-i.i) touch } in
    subst (λ (n : ℕ). IsPixel (margin_pixel k n)) (sym c.get.ensures) there

pub loop-i-init : goal.loop-i-init
loop-i-init c = none_reached c.args.tree.now c.args.part.order c.neighbours-around.result c.new-numbers.result.items c.new-numbers.ensures.items

pub loop-i-preserved : goal.loop-i-preserved
loop-i-preserved c =
    let around = c.neighbours-around.result in
    let k = c.args.part.order in
    let tree = c.args.tree.now in
    let span = c.overlapping-span.result in
    let inside : c.loop-i.i < length around = let lt = c.loop-i-test.true in let size = c.count-i-end.ensures.value in omega (arith, lt, size) in
    let is : IsSpan tree (margin_pixel k (slice_index around c.loop-i.i)) span.first span.count = subst (λ (n : ℕ). IsSpan tree (margin_pixel k n) span.first span.count) c.get.ensures c.overlapping-span.ensures.span in
    one_reached tree k around c.neighbours-around.ensures.ascending c.loop-i.i inside span.first span.count is c.loop-i.next c.max.result _ c.max-next.result c.loop-i.numbers.items c.add_range.new.numbers.items c.loop-i.invariant
    c.max.ensures refl c.max-next.ensures c.in_ok-add_range.ensures

pub returns : goal.returns
returns c =
    let around = c.neighbours-around.result in
    let size = c.count-i-end.ensures.value in
    let end = c.loop-i.auto.i-end in
    let past = c.loop-i-test.false in
    all_reached c.args.tree.now c.args.part around c.loop-i.numbers.items c.loop-i.i c.loop-i.next c.neighbours-around.ensures.touching (omega (arith, size, past)) (omega (arith, size, end)) c.loop-i.invariant
