use Rattle.std.proofs.Common.{length-append, arith, rules}
use Rattle.std.proofs.lemmas.List.Sorted.{IsPermutation-append, IsPermutation-trans}
use Rattle.hx_kd.proofs.Halving.{halved, none_halved}
use Rattle.hx_kd.proofs.halves.+halve.Goals as goal

pub returns-then-is_empty-clause-halved : goal.returns-then-is_empty-clause-halved
returns-then-is_empty-clause-halved t c = none_halved c.args.nodes.now c.args.rows.now (search rules)

pub returns-clause-permutation : goal.returns-clause-permutation
returns-clause-permutation t c =
    IsPermutation-trans _ _ _ c.sorted_on-axis.ensures.permutation
    (rw c.split_at_mut-first.ensures.value (IsPermutation-append _ _ _ _ c.halve.ensures.permutation c.halve-2.ensures.permutation))

pub returns-clause-halved : goal.returns-clause-halved
returns-clause-halved t c =
    let front = c.split_at_mut-first.ensures.front_len in
    let back = c.split_at_mut-first.ensures.back_len in
    let front_nodes = c.split_at_mut-first_nodes.ensures.front_len in
    let back_nodes = c.split_at_mut-first_nodes.ensures.back_len in
    let all = length-append c.halve.new.rows c.halve-2.new.rows in
    let all_nodes = length-append c.halve.new.nodes c.halve-2.new.nodes in
    let a = c.halve.auto.rows in
    let b = c.halve-2.auto.rows in
    let an = c.halve.auto.nodes in
    let bn = c.halve-2.auto.nodes in
    halved _ c.sorted_on-axis.new.rows c.halve.new.rows c.halve-2.new.rows c.halve.new.nodes c.halve-2.new.nodes c.node_of.ensures
    (rw (← c.split_at_mut-first.ensures.front) c.halve.ensures.permutation) (rw (← c.split_at_mut-first.ensures.back) c.halve-2.ensures.permutation)
    (omega (arith, front, back, all, a, b)) (omega (arith, front_nodes, back_nodes, all_nodes, an, bn)) c.halve.ensures.halved c.halve-2.ensures.halved
