use Rattle.std.proofs.Common.{◌∙◌, arith, sym}
use Rattle.hx_rows.proofs.Columns.{column-again, column-known}
use Rattle.hx_rows.proofs.header.column_of.Goals as goal

pub returns-then-is_some : goal.returns-then-is_some
returns-then-is_some g c =
    column-again (g.F.Fields.fields c.args.header.now) c.args.name.now c.loop-column.column c.loop-column.found (omega arith) (rw (← c.at.ensures) (sym c.eq.ensures ∙ c.if-eq.true)) c.loop-column.invariant (sym c.is_some.ensures ∙ c.if-is_some.true)

pub returns : goal.returns
returns g c =
    c.ok_or.ensures.value ∙ column-known (g.F.Fields.fields c.args.header.now) c.args.name.now c.loop-column.column c.loop-column.found (omega arith) c.loop-column.invariant
