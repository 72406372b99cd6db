use Rattle.std.proofs.Common.{◌≡◌}
use Rattle.std.specs.Vec.Iter.{into_iter_items}
use Rattle.hx_pqmeta.specs.Refusals.{each}
use Rattle.hx_pqmeta.specs.Footers.{group_of}
use Rattle.hx_pqmeta.proofs.Checks.{each_from}
use Rattle.hx_pqmeta.proofs.reading.groups_of.Given as goal

abbrev pub invariant-loop-row_group : goal.invariant-loop-row_group
invariant-loop-row_group l =
    (goal.iterator-loop-row_group).can_next l.row_group-iterator ×
    (goal.iterator-loop-row_group).is_finite l.row_group-iterator ×
    (each_from group_of l.groups.items (into_iter_items l.row_group-iterator) ≡ each group_of l.fn.row_groups.items)
