use Rattle.std.proofs.Common.{◌≡◌, suc}
use Rattle.hx_rows.specs.Csv.{row_of_record}
use Rattle.hx_rows.specs.Headers.{columns_in}
use Rattle.hx_rows.specs.Rows.{rows_from}
use Rattle.hx_rows.specs.Unread.{Stands, unread}
use Rattle.hx_rows.proofs.Collecting.{joined}
use Rattle.hx_rows.proofs.table.rows_under.Given as goal

-- the rows so far and those of the records that are left are what all of them give
abbrev pub invariant-loop-turn : goal.invariant-loop-turn
invariant-loop-turn l = record {
  stands : Stands l.reader;
  rows : joined l.rows.items (rows_from (row_of_record (columns_in l.header) l.header.width) (suc l.turn) (unread l.reader))
      ≡ rows_from (row_of_record (columns_in l.header) l.header.width) 1 (unread l.initial.reader);
}
