use Rattle.std.proofs.Common.{◌≡◌, take}
use Rattle.hx_book.specs.Books.{rows_of_kind}
use Rattle.hx_import.proofs.summing.rows_of_kind.Given as goal

abbrev pub invariant-loop-entry : goal.invariant-loop-entry
invariant-loop-entry l = record { so_far : l.rows ≡ rows_of_kind l.kind (take l.entry-index l.records) }
