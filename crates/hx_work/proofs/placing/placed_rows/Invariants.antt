use Rattle.std.proofs.Common.{take}
use Rattle.hx_work.specs.Places.{Places}
use Rattle.hx_work.proofs.placing.placed_rows.Given as goal

abbrev pub invariant-loop-row : goal.invariant-loop-row
invariant-loop-row l = Places l.parts (take l.row-index l.rows) l.placed.items
