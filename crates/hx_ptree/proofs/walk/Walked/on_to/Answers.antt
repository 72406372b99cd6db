use Rattle.std.proofs.Common.{◌≡◌, ◌+◌, ◌-◌, ℕ, arith}
use Rattle.hx_base.proofs.Ranges.{some_range}
use Rattle.hx_base.specs.Pixels.{end_position}
use Rattle.hx_base.specs.declared.pixel.Pixel.{Pixel}
use Rattle.hx_ptree.proofs.Lists.{is_span}
use Rattle.hx_ptree.proofs.walk.Walked.on_to.Goals as goal

last_is : (pixel : Pixel) (end : ℕ) → end ≡ end_position pixel → end - 1 + 1 ≡ end_position pixel
last_is pixel end is = omega (arith, is, some_range pixel)

pub returns-clause-span : goal.returns-clause-span
returns-clause-span c =
    let ended = c.ended_by in
    let begun = c.begun_by in
    is_span c.args.parts.now c.requires.disjoint c.args.pixel.now c.first_position.result (c.end_position.result - 1) ended.result begun.result c.requires.exists c.first_position.ensures.value (last_is c.args.pixel.now c.end_position.result c.end_position.ensures.value)
    ended.ensures.within begun.ensures.within ended.ensures.before ended.ensures.after begun.ensures.begun begun.ensures.later
