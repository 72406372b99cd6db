use Rattle.std.proofs.Common.{◌≡◌, drop}
use Rattle.hx_pqmeta.specs.Refusals.{each}
use Rattle.hx_pqread.specs.Columns.{group_span}
use Rattle.hx_pqread.proofs.Joins.{each_from}
use Rattle.hx_pqread.proofs.chunk.spans_of.Given as goal

abbrev pub invariant-loop-group : goal.invariant-loop-group
invariant-loop-group l = each_from (group_span l.column l.fn.place) l.spans.items (drop l.group-index l.groups) ≡ each (group_span l.column l.fn.place) l.fn.groups
