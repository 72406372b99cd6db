use Rattle.std.proofs.Common.{◌≡◌, ◌++◌, ◌-◌, ◌<◌, ◌^◌, length, map}
use Rattle.std.specs.List.{All}
use Rattle.hx_base.specs.Columns.{value_in}
use Rattle.hx_base.specs.declared.row.Row.{Row}
use Rattle.hx_pqwrite.specs.Files.{page_count, pages}
use Rattle.hx_pqwrite.proofs.pages.push_column.Given as goal

abbrev pub invariant-loop : goal.invariant-loop
invariant-loop l = record {
  good : All (λ (row : Row). row.hp < 2 ^ 63) l.rest;
  so_far : l.bytes.items ++ pages (page_count (length l.rows) - l.counter) (map (value_in l.column) l.rest) ≡ l.fn.bytes.items ++ pages (page_count (length l.rows)) (map (value_in l.column) l.rows);
}
