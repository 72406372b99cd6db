use Rattle.std.proofs.Common.{◌∙◌, ◌<◌, ℕ, length, get_or, sym, subst, arith}
use Rattle.std.proofs.lemmas.List.{get_or_default}
use Rattle.std.proofs.lemmas.List.Elements.{Contains-get_or}
use Rattle.hx_base.specs.Pixels.{LiesIn}
use Rattle.hx_base.specs.Touching.{Touch}
use Rattle.hx_xmatch.proofs.Around.{touching_below}
use Rattle.hx_xmatch.proofs.runs.add_around.Goals as goal

pub add_holder-requires-clause-pixel : goal.add_holder-requires-clause-pixel
add_holder-requires-clause-pixel c =
    let around = c.neighbours-around.result in
    let within : c.loop-i.i < length around = omega (arith, c.loop-i-test.true, c.count-i-end.ensures.value) in
    let touches : Touch c.args.margin_order c.args.pixel (get_or around c.loop-i.i 0) = (c.neighbours-around.ensures.touching (get_or around c.loop-i.i 0)).0 (Contains-get_or around c.loop-i.i 0 within) in
    record {
      order = c.requires.order;
      number = touching_below c.args.margin_order c.args.pixel c.get.result (subst (Touch c.args.margin_order c.args.pixel) (sym c.get.ensures) touches);
    }

pub returns-clause-around : goal.returns-clause-around
returns-clause-around c = λ index part neighbour at touches lies.
    let around = c.neighbours-around.result in
    let (k, within, is) = (c.neighbours-around.ensures.touching neighbour).1 touches in
    c.loop-i.invariant.around k index part (omega (arith, within, c.loop-i-test.false, c.count-i-end.ensures.value)) at
    (subst (λ (n : ℕ). LiesIn (record { order = c.args.margin_order; number = n }) part) (sym (get_or_default around k 0 neighbour within ∙ is)) lies)
