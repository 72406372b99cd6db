use Rattle.std.proofs.Common.{◌≡◌, ◌∙◌, ◌+◌, ◌-◌, ◌*◌, ◌/◌, ◌^◌, ◌≤◌, ℕ, List, ap, length, sym, subst}
use Rattle.std.specs.List.{AllWithin}
use Rattle.std.proofs.lemmas.Nat.{pow_pos}
use Rattle.hx_base.proofs.Powers.{four_is}
use Rattle.hx_cover.specs.declared.bounds.CoverBox.{CoverBox}
use Rattle.hx_cover.proofs.Walks.{all_near}
use Rattle.hx_cover.proofs.trees.CoverTree.near_run.Goals as goal

pub returns : goal.returns
returns c =
    let part = c.in-Some.part in
    let shift = 2 * c.from-shift.result in
    let w = 2 ^ shift in
    let right = c.args.self.now in
    let is = c.as_slice-right.ensures.value ∙ c.self.view_is in
    let steps : c.from-shift.result ≡ c.args.margin_order + 2 - part.order = c.from-shift.ensures in
    let four : w ≡ 4 ^ (c.args.margin_order + 2 - part.order) = sym (four_is c.from-shift.result) ∙ ap (λ (n : ℕ). 4 ^ n) steps in
    let first : c.args.first / w ≡ part.number = c.if-first-shift.false in
    let last : c.args.last / w ≡ part.number = c.if-last-shift.false in
    let above = subst (λ (xs : List CoverBox). AllWithin (λ b. part.number ≤ b.pixel / w) xs c.count_before.result (length xs)) is c.count_before.ensures in
    let below = subst (λ (xs : List CoverBox). AllWithin (λ b. b.pixel / w ≤ part.number) xs 0 c.count_begun.result) is c.count_begun.ensures in
    all_near c.args.tree.now c.args.margin_order c.args.first c.args.last w c.count_before.result c.count_begun.result right part c.in-Some.ensures.part.0 c.if-part-margin_order.false (pow_pos shift) four first last above below
