use Rattle.std.proofs.Common.{◌≡◌, ◌∙◌, ◌+◌, ◌-◌, ℕ, List, arith, subst, sym}
use Rattle.hx_base.proofs.Ranges.{some_range}
use Rattle.hx_base.specs.Pixels.{AreDisjointInOrder, end_position}
use Rattle.hx_base.specs.declared.pixel.Pixel.{Pixel}
use Rattle.hx_ptree.specs.Searches.{IsSpan}
use Rattle.hx_ptree.proofs.Lists.{ends_in_order, is_span}
use Rattle.hx_ptree.proofs.tree.PixelTree.overlapping.Goals as goal

last_is : (pixel : Pixel) (end : ℕ) → end ≡ end_position pixel → end - 1 + 1 ≡ end_position pixel
last_is pixel end is = omega (arith, is, some_range pixel)

pub overflow_sub-result : goal.overflow_sub-result
overflow_sub-result c =
    let disjoint = subst AreDisjointInOrder (sym c.as_slice-parts.ensures.value) c.self.invariant.disjoint in
    let first = c.count_before-first in
    let end = c.count_begun-end in
    ends_in_order c.as_slice-parts.result.now disjoint c.args.pixel c.first_position.result (c.end_position.result - 1) first.result end.result c.requires c.first_position.ensures.value (last_is c.args.pixel c.end_position.result c.end_position.ensures.value)
    first.ensures.within end.ensures.within first.ensures.before first.ensures.after end.ensures.begun end.ensures.later

pub returns-clause-span : goal.returns-clause-span
returns-clause-span c =
    let disjoint = subst AreDisjointInOrder (sym c.as_slice-parts.ensures.value) c.self.invariant.disjoint in
    let first = c.count_before-first in
    let end = c.count_begun-end in
    let span = is_span c.as_slice-parts.result.now disjoint c.args.pixel c.first_position.result (c.end_position.result - 1) first.result end.result c.requires c.first_position.ensures.value (last_is c.args.pixel c.end_position.result c.end_position.ensures.value)
    first.ensures.within end.ensures.within first.ensures.before first.ensures.after end.ensures.begun end.ensures.later in
    subst (λ (parts : List Pixel). IsSpan parts c.args.pixel first.result (end.result - first.result)) (c.as_slice-parts.ensures.value ∙ c.self.view_is) span
