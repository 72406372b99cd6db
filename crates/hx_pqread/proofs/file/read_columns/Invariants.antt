use Rattle.std.proofs.Common.{◌≡◌, List, ℤ, Option, map, drop, string_bytes}
use Rattle.hx_pqread.specs.Values.{present}
use Rattle.hx_pqread.specs.Columns.{columns_at, least_absent}
use Rattle.hx_pqread.proofs.Joins.{with_columns}
use Rattle.hx_pqread.proofs.file.read_columns.Given as goal

abbrev pub invariant-loop-i : goal.invariant-loop-i
invariant-loop-i l = (front : List (List (Option ℤ))) × (map (λ list. list.items) l.lists.items ≡ map present front) × (l.absent ≡ least_absent front)
    × (with_columns front (columns_at l.footer l.file l.i (map string_bytes (drop l.i l.names))) ≡ columns_at l.footer l.file 0 (map string_bytes l.names))
