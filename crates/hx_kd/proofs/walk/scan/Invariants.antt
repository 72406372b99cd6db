use Rattle.std.proofs.Common.{◌++◌, ℕ, List, take}
use Rattle.hx_base.specs.declared.row.Row.{Row}
use Rattle.hx_kd.specs.Closest.{IsClosestOf}
use Rattle.hx_kd.proofs.walk.scan.Given as goal

abbrev pub invariant-loop-row : goal.invariant-loop-row
invariant-loop-row l = (r2 : ℕ) (seen : List Row) → IsClosestOf l.from.row r2 seen l.initial.best → IsClosestOf l.from.row r2 (seen ++ take l.row-index l.rows) l.best
