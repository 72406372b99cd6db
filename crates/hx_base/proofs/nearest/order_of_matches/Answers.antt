use Rattle.std.proofs.Common.{ap}
use Rattle.std.specs.Ordering.{int_cmp, nat_cmp, ordering_then}
use Rattle.hx_base.specs.Chords.{chord2_of}
use Rattle.hx_base.proofs.MatchOrder.{compared_once, match_exact, match_total}
use Rattle.hx_base.proofs.nearest.order_of_matches.Goals as goal

pub returns-clause-fields : goal.returns-clause-fields
returns-clause-fields c = λ from a b. ap (λ o. ordering_then (nat_cmp (chord2_of from a) (chord2_of from b)) o) (compared_once (int_cmp a.id b.id) (nat_cmp a.hp b.hp) _)

pub returns-clause-total : goal.returns-clause-total
returns-clause-total c = match_total

pub returns-clause-exact : goal.returns-clause-exact
returns-clause-exact c = match_exact
