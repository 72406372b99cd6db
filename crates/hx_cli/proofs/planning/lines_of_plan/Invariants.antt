use Rattle.std.proofs.Common.{◌≡◌, take}
use Rattle.std.specs.List.{flat_map}
use Rattle.hx_cli.specs.Plans.{partition_line}
use Rattle.hx_cli.proofs.planning.lines_of_plan.Given as goal

abbrev pub invariant-loop-row : goal.invariant-loop-row
invariant-loop-row l = l.text.items ≡ flat_map (λ row. partition_line row.pixel row.count) (take l.row-index l.rows)
