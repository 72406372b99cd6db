use Rattle.std.proofs.Common.{◌∙◌, Ok, Some, add-one, ap, append-nil, arith, drop, suc, sym}
use Rattle.csv.specs.declared.parser.State.TheVariants as st
use Rattle.hx_rows.specs.Csv.{row_of_record}
use Rattle.hx_rows.specs.Headers.{columns_in}
use Rattle.hx_rows.specs.Rows.{rows_from}
use Rattle.hx_rows.specs.Unread.{unread_from}
use Rattle.hx_rows.proofs.Collecting.{joined, joined-fault, joined-row}
use Rattle.hx_rows.proofs.Lines.{line-taken, none-left}
use Rattle.hx_rows.proofs.plain.rows_under.Goals as goal

pub returns-then-at-text : goal.returns-then-at-text
returns-then-at-text c =
    let row_of = row_of_record (columns_in c.args.header.now) c.args.header.now.width in
    let none = none-left c.args.text.now c.loop-turn.at (omega (arith, c.if-at-text.true)) in
    sym c.loop-turn.invariant.rows ∙ ap (λ left. joined c.loop-turn.rows.items (rows_from row_of (suc c.loop-turn.turn) left)) none ∙ ap Ok (append-nil c.loop-turn.rows.items)

pub returns-in-Err : goal.returns-in-Err
returns-in-Err c =
    let row_of = row_of_record (columns_in c.args.header.now) c.args.header.now.width in
    let text = c.args.text.now in
    let left = line-taken (drop c.loop-turn.at text) (drop c.in_ok-next.next text) _ c.in_ok-next.ensures.record in
    let told = rw (add-one, c.row_of_record.ensures) at c.in-Err.ensures.refused in
    rw (← c.loop-turn.invariant.rows) (
    rw left (joined-fault row_of (suc c.loop-turn.turn) _ (unread_from st.StartRecord (Some (drop c.in_ok-next.next text))) c.loop-turn.rows.items c.in-Err.refusal told)
    )

pub loop-turn-preserved : goal.loop-turn-preserved
loop-turn-preserved c =
    let row_of = row_of_record (columns_in c.args.header.now) c.args.header.now.width in
    let text = c.args.text.now in
    let left = line-taken (drop c.loop-turn.at text) (drop c.in_ok-next.next text) _ c.in_ok-next.ensures.record in
    let added = c.in_default.ensures.added in
    let row = rw (add-one, c.row_of_record.ensures) at added.1 in
    let more = joined-row row_of (suc c.loop-turn.turn) _ (unread_from st.StartRecord (Some (drop c.in_ok-next.next text))) c.loop-turn.rows.items added.0 row in
    record {
      high = c.in_ok-next.ensures.next;
      rows = rw (add-one, added.2) (more ∙ ap (λ left. joined c.loop-turn.rows.items (rows_from row_of (suc c.loop-turn.turn) left)) (sym left) ∙ c.loop-turn.invariant.rows);
    }
