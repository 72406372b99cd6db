use Rattle.std.proofs.Common.{◌≡◌, ◌+◌, ◌<◌, ◌^◌, ℤ, List, Option, drop}
use Rattle.hx_pqread.specs.Columns.{spans_at, values_of}
use Rattle.hx_pqread.specs.Keeping.{Keeps}
use Rattle.hx_pqread.proofs.Joins.{with_values}
use Rattle.hx_pqread.proofs.column.read_spans.Given as goal

abbrev pub invariant-loop-span : goal.invariant-loop-span
invariant-loop-span l = record {
  few : l.kept.count + values_of (drop l.span-index l.spans) < 2 ^ 64;
  so_far : (values : List (Option ℤ)) × Keeps values l.kept
      × (with_values values (spans_at l.asked (drop l.span-index l.spans) l.file) ≡ spans_at l.asked l.fn.spans l.file);
}
