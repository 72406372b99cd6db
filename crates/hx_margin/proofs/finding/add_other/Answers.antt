use Rattle.std.proofs.Common.{◌≡◌, ◌∙◌, ◌⊎◌, ℕ, List, sym, subst}
use Rattle.std.specs.List.{Contains}
use Rattle.std.proofs.lemmas.Bool.{false≢true}
use Rattle.hx_margin.proofs.Holders.{other_known, other_none, other_pushed}
use Rattle.hx_margin.proofs.finding.add_other.Goals as goal

-- what is known of a list is known of an equal one
as_known : (own holder : ℕ) (xs ys : List ℕ) → xs ≡ ys → (holder ≡ own) ⊎ Contains xs holder → (holder ≡ own) ⊎ Contains ys holder
as_known own holder xs ys e h = subst (λ (l : List ℕ). (holder ≡ own) ⊎ Contains l holder) e h

pub returns-in_ok-push : goal.returns-in_ok-push
returns-in_ok-push c =
    let holder = c.in-Some.holder in
    let old = c.args.numbers.now.items in
    rw c.in_ok-push.ensures.items
    (other_pushed c.args.tree.now c.in-Some.ensures.list.disjoint c.args.own c.args.position holder old c.in-Some.ensures.holder
    (λ known. false≢true (sym c.if-not-is_known.true ∙ c.is_known.ensures.1 (as_known c.args.own holder old c.deref.result.now (sym c.deref.ensures.value) known))))

pub returns-else-not-is_known : goal.returns-else-not-is_known
returns-else-not-is_known c =
    let holder = c.in-Some.holder in
    let old = c.args.numbers.now.items in
    other_known c.args.tree.now c.in-Some.ensures.list.disjoint c.args.own c.args.position holder old c.in-Some.ensures.holder
    (as_known c.args.own holder c.deref.result.now old c.deref.ensures.value (c.is_known.ensures.0 c.if-not-is_known.false))

pub returns-in_default : goal.returns-in_default
returns-in_default c = other_none c.args.tree.now c.in_default.ensures.list.disjoint c.args.own c.args.position c.args.numbers.now.items c.in_default.ensures.holder
