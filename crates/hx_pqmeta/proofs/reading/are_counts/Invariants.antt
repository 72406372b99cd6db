use Rattle.std.proofs.Common.{◌≡◌, map, drop, pos, ◌≤ℤ◌}
use Rattle.hx_pqmeta.specs.Footers.{are_counts}
use Rattle.hx_pqmeta.proofs.reading.are_counts.Given as goal

abbrev pub invariant-loop-group : goal.invariant-loop-group
invariant-loop-group l = (pos 0 ≤ℤ l.left) × (are_counts l.left (map (λ group. group.rows) (drop l.group-index l.groups)) ≡ are_counts l.fn.rows (map (λ group. group.rows) l.fn.groups))
