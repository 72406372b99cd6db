use Rattle.hx_cover.proofs.NearPixels.{ancestor_below, near_else}
use Rattle.hx_cover.proofs.nearness.are_near.Goals as goal

pub ancestors_meet-requires-clause-p : goal.ancestors_meet-requires-clause-p
ancestors_meet-requires-clause-p c = ancestor_below c.args.margin_order c.args.p c.requires.p

pub ancestors_meet-requires-clause-q : goal.ancestors_meet-requires-clause-q
ancestors_meet-requires-clause-q c = ancestor_below c.args.margin_order c.args.q c.requires.q

pub returns-else-ancestors_meet : goal.returns-else-ancestors_meet
returns-else-ancestors_meet c =
    let one = c.have_one_holder in
    near_else c.args.tree.now c.args.margin_order c.args.p c.args.q c.first_position.result c.first_position-else-ancestors_meet.result c.ancestors_meet.result one.result c.requires.order one.ensures.list.disjoint
    c.first_position.ensures.value c.first_position-else-ancestors_meet.ensures.value c.if-ancestors_meet.false c.ancestors_meet.ensures one.ensures.holder
