use Rattle.std.proofs.Common.{◌≡◌, ◌++◌, drop, map}
use Rattle.hx_base.specs.Columns.{value_in}
use Rattle.hx_pqwrite.specs.Files.{body}
use Rattle.hx_pqwrite.proofs.pages.push_body.Given as goal

abbrev pub invariant-loop-row : goal.invariant-loop-row
invariant-loop-row l = l.bytes.items ++ body (map (value_in l.column) (drop l.row-index l.rows)) ≡ l.fn.bytes.items ++ body (map (value_in l.column) l.rows)
