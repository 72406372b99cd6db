use Rattle.std.proofs.Common.{◌∙◌, ap, length, sym, arith}
use Rattle.std.proofs.lemmas.Bool.{ltb-false, ltb-true}
use Rattle.hx_cover.proofs.Searches.{found_at, none_at_end, none_next, none_on}
use Rattle.hx_cover.proofs.Walks.{there_by}
use Rattle.hx_cover.proofs.trees.CoverTree.first_too_near_to.Goals as goal
use Rattle.hx_cover.proofs.trees.CoverTree.first_too_near_to.Goals.{else-gap2-r2-via-then-gap2-r2+else-not-are_near, else-gap2-r2-via-else-gap2-r2}

pub returns-in_default : goal.returns-in_default
returns-in_default c =
    let right = c.args.self.now in
    let next = c.next_within-next in
    let none = none_on c.args.tree.now c.args.margin_order c.args.r2 c.args.a.now right c.near_run-near.result.first c.near_run-near.result.end c.loop-at.at next.result c.loop-at.invariant c.near_run-near.ensures next.ensures.passed in
    let past = ltb-false _ _ (sym c.in_default.ensures.lookup.0) in
    let same = ap length (c.deref.ensures.value ∙ c.self.view_is) in
    none_at_end c.args.tree.now c.args.margin_order c.args.r2 c.args.a.now right next.result none (omega (arith, past, same))

pub returns-then-not-are_near : goal.returns-then-not-are_near
returns-then-not-are_near c =
    let right = c.args.self.now in
    let next = c.next_within-next in
    let none = none_on c.args.tree.now c.args.margin_order c.args.r2 c.args.a.now right c.near_run-near.result.first c.near_run-near.result.end c.loop-at.at next.result c.loop-at.invariant c.near_run-near.ensures next.ensures.passed in
    let lookup = c.in-Some.ensures.lookup in
    let there = there_by right c.deref.result.now next.result c.in-Some.b.now (c.deref.ensures.value ∙ c.self.view_is) (ltb-true _ _ (sym lookup.0)) lookup.1 in
    found_at c.args.tree.now c.args.margin_order c.args.r2 c.args.a.now right next.result c.gap2-gap2.result c.in-Some.b.now none there c.requires.right.ordered c.gap2-gap2.ensures c.if-gap2-r2.true
    (λ near. let t = c.are_near.ensures.1 near in let f = c.if-not-are_near.true in absurd (let g = f in cc))

pub loop-at-preserved : goal.loop-at-preserved
loop-at-preserved c =
    let right = c.args.self.now in
    let next = c.next_within-next in
    let none = none_on c.args.tree.now c.args.margin_order c.args.r2 c.args.a.now right c.near_run-near.result.first c.near_run-near.result.end c.loop-at.at next.result c.loop-at.invariant c.near_run-near.ensures next.ensures.passed in
    let lookup = c.in-Some.ensures.lookup in
    let there = there_by right c.deref.result.now next.result c.in-Some.b.now (c.deref.ensures.value ∙ c.self.view_is) (ltb-true _ _ (sym lookup.0)) lookup.1 in
    none_next c.args.tree.now c.args.margin_order c.args.r2 c.args.a.now right next.result c.in-Some.b.now none there
    (elim c.else-gap2-r2.branch [
      | else-gap2-r2-via-then-gap2-r2+else-not-are_near w ↦ λ h. h.apart (w.are_near.ensures.0 (w.if-not-are_near.false))
      | else-gap2-r2-via-else-gap2-r2 w ↦ λ h. let le = h.within in let gap = c.gap2-gap2.ensures in let past = w.if-gap2-r2.false in omega (arith, le, gap, past)
    ])

pub returns : goal.returns
returns c =
    let right = c.args.self.now in
    let past = c.loop-at-test.false in
    let len = c.len.ensures in
    let same = ap length c.self.view_is in
    none_at_end c.args.tree.now c.args.margin_order c.args.r2 c.args.a.now right c.loop-at.at c.loop-at.invariant (omega (arith, past, len, same))
