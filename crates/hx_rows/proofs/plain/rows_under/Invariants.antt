use Rattle.std.proofs.Common.{◌≡◌, ◌≤◌, Some, drop, length, suc}
use Rattle.csv.specs.declared.parser.State.TheVariants as st
use Rattle.hx_rows.specs.Csv.{row_of_record}
use Rattle.hx_rows.specs.Headers.{columns_in}
use Rattle.hx_rows.specs.Rows.{rows_from}
use Rattle.hx_rows.specs.Unread.{unread_from}
use Rattle.hx_rows.proofs.Collecting.{joined}
use Rattle.hx_rows.proofs.plain.rows_under.Given as goal

-- the rows so far and those of the records that are left are what all of them give
abbrev pub invariant-loop-turn : goal.invariant-loop-turn
invariant-loop-turn l = record {
  high : l.at ≤ length l.text;
  rows : joined l.rows.items (rows_from (row_of_record (columns_in l.header) l.header.width) (suc l.turn) (unread_from st.StartRecord (Some (drop l.at l.text))))
      ≡ rows_from (row_of_record (columns_in l.header) l.header.width) 1 (unread_from st.StartRecord (Some (drop l.start l.text)));
}
