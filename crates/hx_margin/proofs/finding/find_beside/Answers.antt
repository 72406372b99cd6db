use Rattle.std.proofs.Common.{◌∙◌, ◌<◌, ◌-◌, ℕ, ap, arith, length, slice_index, subst, sym}
use Rattle.std.proofs.lemmas.List.Elements.{Contains-get_or}
use Rattle.hx_base.specs.Pixels.{IsPixel, first_position}
use Rattle.hx_margin.specs.Beside.{margin_pixel}
use Rattle.hx_margin.proofs.Looking.{beside_found, none_beside, none_found, one_found}
use Rattle.hx_margin.proofs.Spans.{touched_exists}
use Rattle.hx_margin.proofs.finding.find_beside.Goals as goal

pub returns-then-is_inner : goal.returns-then-is_inner
returns-then-is_inner c =
    let m = c.args.margin_order in
    let k = c.args.order in
    none_beside c.args.tree.now m c.requires.order c.requires.list c.requires.orders c.args.own k c.args.pixel c.requires.own c.clear.new.self.items c.clear.ensures.items
    (λ q touch. c.inner_pixels.ensures m (m - k) c.args.pixel q (omega arith) (c.is_inner.ensures.0 c.if-is_inner.true) touch)

pub first_position-requires : goal.first_position-requires
first_position-requires c =
    let around = c.neighbours-around.result in
    let m = c.args.margin_order in
    let inside : c.loop-i.i < length around = let lt = c.loop-i-test.true in let size = c.count-i-end.ensures.value in omega (arith, lt, size) in
    let touch = (c.neighbours-around.ensures.touching (slice_index around c.loop-i.i)).0 (Contains-get_or around c.loop-i.i 0 inside) in
    let there : IsPixel (margin_pixel m (slice_index around c.loop-i.i)) = record { order = c.requires.order; number = touched_exists m c.args.pixel (slice_index around c.loop-i.i) touch } in
    subst (λ (n : ℕ). IsPixel (margin_pixel m n)) (sym c.get.ensures) there

pub loop-i-init : goal.loop-i-init
loop-i-init c = none_found c.args.tree.now c.args.own c.args.margin_order c.neighbours-around.result c.clear.new.self.items c.clear.ensures.items

pub loop-i-preserved : goal.loop-i-preserved
loop-i-preserved c =
    let m = c.args.margin_order in
    let around = c.neighbours-around.result in
    let at = c.first_position.ensures.value ∙ ap (λ (n : ℕ). first_position (margin_pixel m n)) c.get.ensures in
    one_found c.args.tree.now c.args.own m around c.loop-i.i c.first_position.result c.loop-i.numbers.items c.add_other.new.numbers.items c.loop-i.invariant at c.in_ok-add_other.ensures

pub returns : goal.returns
returns c =
    let m = c.args.margin_order in
    let around = c.neighbours-around.result in
    let size = c.count-i-end.ensures.value in
    let end = c.loop-i.auto.i-end in
    let past = c.loop-i-test.false in
    beside_found c.args.tree.now m c.requires.order c.requires.list c.requires.orders c.args.own c.args.order c.args.pixel c.requires.own around c.loop-i.numbers.items c.loop-i.i (omega (arith, size, past)) c.neighbours-around.ensures.touching
    c.loop-i.invariant (omega (arith, size, end))
