use Rattle.std.proofs.Common.{drop}
use Rattle.hx_rows.specs.Headers.{columns_in}
use Rattle.hx_rows.proofs.Lines.{fault-of-plain, no-mark, rows-of-plain}
use Rattle.hx_rows.proofs.plain.plain_rows.Goals as goal

pub returns-in-Ok : goal.returns-in-Ok
returns-in-Ok c =
    let text = c.args.text.now in
    let columns = c.in-Ok.ensures.columns in
    let width = c.in-Ok.ensures.width in
    let same = rows-of-plain text (drop c.in_ok-start.start text) _ (columns_in c.in-Ok.header) (no-mark text c.if-text.false) c.in_ok-start.ensures.record columns in
    rw same (rw width at c.rows_under.ensures)

pub returns : goal.returns
returns c =
    let text = c.args.text.now in
    let columns = c.in-Err.ensures.columns in
    rw c.refused.ensures (fault-of-plain text (drop c.in_ok-start.start text) _ c.in-Err.fault (no-mark text c.if-text.false) c.in_ok-start.ensures.record columns)
