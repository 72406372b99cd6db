use Rattle.std.proofs.Common.{◌∙◌, add-one, ap, sym, suc}
use Rattle.csv.specs.Records.{fields_of}
use Rattle.hx_rows.specs.Csv.{row_of_record}
use Rattle.hx_rows.specs.Headers.{columns_in}
use Rattle.hx_rows.specs.Rows.{rows_from}
use Rattle.hx_rows.specs.Unread.{unread}
use Rattle.hx_rows.proofs.Collecting.{joined, joined-row}
use Rattle.hx_rows.proofs.table.rows_under.Goals as goal

pub loop-turn-preserved : goal.loop-turn-preserved
loop-turn-preserved c =
    let inv = c.loop-turn.invariant in
    let header = c.args.header.now in
    let row_of = row_of_record (columns_in header) header.width in
    let fields = fields_of c.read_next.new.fields in
    let read = rw c.if-not-branch.false at c.in_ok-read_next.ensures.next in
    let added = c.in_ok-push_row.ensures.added in
    let row = rw (add-one, c.row_of_record.ensures) at added.1 in
    let more = joined-row row_of (suc c.loop-turn.turn) fields (unread c.read_next.new.reader) c.loop-turn.rows.items added.0 row in
    record {
      stands = read.0;
      rows = rw (add-one, added.2) (more ∙ ap (λ records. joined c.loop-turn.rows.items (rows_from row_of (suc c.loop-turn.turn) records)) (sym read.1) ∙ inv.rows);
    }
