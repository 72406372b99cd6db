use Rattle.std.proofs.Common.{◌≡◌, ◌++◌, take}
use Rattle.std.specs.List.{flat_map}
use Rattle.hx_spill.specs.Plans.{bytes_of_row}
use Rattle.hx_spill.proofs.plan.push_rows.Given as goal

abbrev pub invariant-loop-row : goal.invariant-loop-row
invariant-loop-row l = l.bytes.items ≡ l.fn.bytes.items ++ flat_map bytes_of_row (take l.row-index l.rows)
