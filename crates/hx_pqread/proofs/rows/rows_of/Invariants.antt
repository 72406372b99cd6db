use Rattle.std.proofs.Common.{◌≡◌, ◌+◌, drop}
use Rattle.hx_pqmeta.specs.Footers.{rows_of}
use Rattle.hx_pqread.proofs.rows.rows_of.Given as goal

abbrev pub invariant-loop-group : goal.invariant-loop-group
invariant-loop-group l = l.rows + rows_of (drop l.group-index l.groups) ≡ rows_of l.fn.groups
