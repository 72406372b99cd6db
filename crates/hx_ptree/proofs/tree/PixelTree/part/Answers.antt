use Rattle.std.proofs.Common.{◌∙◌, ◌≤◌, List, None, length, refl, subst, sym}
use Rattle.std.specs.Bool.{then_some}
use Rattle.std.proofs.lemmas.Bool.{ltb-false, ltb-true}
use Rattle.std.proofs.lemmas.Option.{slice_get_read}
use Rattle.hx_base.specs.Pixels.{AreDisjointInOrder}
use Rattle.hx_base.specs.declared.pixel.Pixel.{Pixel}
use Rattle.hx_ptree.specs.Searches.{IsHolding}
use Rattle.hx_ptree.proofs.Lists.{holding_is, no_holder}
use Rattle.hx_ptree.proofs.tree.PixelTree.part.Goals as goal

pub returns-in_err-part-clause-part : goal.returns-in_err-part-clause-part
returns-in_err-part-clause-part c =
    let parts = c.as_slice-parts in
    let disjoint = subst AreDisjointInOrder (sym parts.ensures.value) c.self.invariant.disjoint in
    let index = c.count_before in
    let past : length parts.result.now ≤ index.result = ltb-false _ _ (sym c.in_err-part.ensures.lookup.0) in
    let none = no_holder parts.result.now disjoint c.args.hp index.result (index.ensures.before, index.ensures.after) past in
    rw c.from_residual.ensures (subst (λ (pixels : List Pixel). IsHolding pixels c.args.hp None) (parts.ensures.value ∙ c.self.view_is) none)

pub returns-clause-part : goal.returns-clause-part
returns-clause-part c =
    let parts = c.as_slice-parts in
    let disjoint = subst AreDisjointInOrder (sym parts.ensures.value) c.self.invariant.disjoint in
    let index = c.count_before in
    let lookup = c.in_ok-part.ensures.lookup in
    let at = slice_get_read parts.result.now (length parts.result.now) index.result c.in_ok-part.part.now refl (ltb-true _ _ (sym lookup.0)) lookup.1 in
    let found = holding_is parts.result.now disjoint c.args.hp index.result c.in_ok-part.part.now c.holds.result (index.ensures.before, index.ensures.after) at c.holds.ensures in
    rw c.then_some.ensures (subst (λ (pixels : List Pixel). IsHolding pixels c.args.hp (then_some c.holds.result c.in_ok-part.part.now)) (parts.ensures.value ∙ c.self.view_is) found)
