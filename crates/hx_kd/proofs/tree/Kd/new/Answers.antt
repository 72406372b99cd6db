use Rattle.std.proofs.Common.{◌≡◌, length, drop, arith}
use Rattle.std.proofs.lemmas.List.Sorted.{All-permutation}
use Rattle.hx_base.specs.Rows.{IsGood}
use Rattle.hx_kd.proofs.Halving.{whole}
use Rattle.hx_kd.proofs.tree.Kd.new.Goals as goal

pub invariant_of-result : goal.invariant_of-result
invariant_of-result c =
    let a = c.halve.auto.rows in
    let b = c.as_mut_slice.ensures.len in
    let an = c.halve.auto.nodes in
    let bn = c.as_mut_slice-2.ensures.len in
    let rows : length c.halve.new.rows ≡ c.args.rows.len = omega (arith, a, b) in
    let nodes : length c.halve.new.nodes ≡ c.in_ok-nodes.nodes.len = omega (arith, an, bn) in
    rw (
      whole c.args.rows.len c.halve.new.rows (drop (length c.halve.new.rows) c.args.rows.items) rows,
      whole c.in_ok-nodes.nodes.len c.halve.new.nodes (drop (length c.halve.new.nodes) c.in_ok-nodes.nodes.items) nodes,
    )
    (record { good = All-permutation IsGood _ _ c.halve.ensures.permutation (rw c.as_mut_slice.ensures.value c.requires); halved = c.halve.ensures.halved })
