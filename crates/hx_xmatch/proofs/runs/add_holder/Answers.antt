use Rattle.std.proofs.Common.{ℕ, Contains, subst}
use Rattle.std.proofs.lemmas.Option.{slice_get_within}
use Rattle.hx_xmatch.proofs.Around.{holder_found, indices_more, none_found}
use Rattle.hx_xmatch.proofs.runs.add_holder.Goals as goal

pub returns-in_ok-add_index-clause-indices : goal.returns-in_ok-add_index-clause-indices
returns-in_ok-add_index-clause-indices c =
    let (part, at, holds) = c.in-Some.ensures.holder in
    indices_more c.args.tree.now c.args.indices.now.items c.add_index.new.indices.items c.in-Some.index c.requires.indices (slice_get_within c.args.tree.now c.in-Some.index part at)
    c.in_ok-add_index.ensures.only

pub returns-in_ok-add_index-clause-added : goal.returns-in_ok-add_index-clause-added
returns-in_ok-add_index-clause-added c = λ index part at lies.
    subst (λ (i : ℕ). Contains c.add_index.new.indices.items i)
    (holder_found c.args.tree.now c.args.pixel index c.in-Some.index part c.first_position.result c.first_position.ensures.value c.holder.ensures.list.disjoint c.requires.pixel c.in-Some.ensures.holder at lies)
    c.in_ok-add_index.ensures.added

pub returns-in_default-clause-added : goal.returns-in_default-clause-added
returns-in_default-clause-added c = λ index part at lies.
    absurd (none_found c.args.tree.now c.args.pixel index part c.first_position.result c.first_position.ensures.value c.holder.ensures.list.disjoint c.requires.pixel c.in_default.ensures.holder at lies)
