use Rattle.std.proofs.Common.{[], ◌∙◌, ◌∷◌, ◌-◌, add-one, ap, length, sym, suc}
use Rattle.std.specs.List.{range_with_len}
use Rattle.hx_rows.specs.Parquet.{row_across}
use Rattle.hx_rows.specs.Rows.{rows_from}
use Rattle.hx_rows.proofs.Across.{range-more}
use Rattle.hx_rows.proofs.Collecting.{joined, joined-fault, joined-row, reads-refused}
use Rattle.hx_rows.proofs.parquet.rows_across.Goals as goal

pub returns-in_err-push_row : goal.returns-in_err-push_row
returns-in_err-push_row c =
    let i = c.loop-i.i in
    let many = length c.args.hps.now in
    let columns = c.args.hps.now ∷ c.args.ids.now ∷ c.args.xs.now ∷ c.args.ys.now ∷ c.args.zs.now ∷ [] in
    let values = rw (c.value_at.ensures, c.value_at-in-loop-i.ensures, c.value_at-in-loop-i-2.ensures, c.value_at-in-loop-i-3.ensures, c.value_at-in-loop-i-4.ensures) at c.row_across-row.ensures in
    let refusal = c.in_err-push_row.field-0.0 in
    let told = rw (add-one, values) at c.in_err-push_row.ensures.refused in
    let left = range-more i many c.loop-i-test.true in
    let fault = joined-fault (row_across columns) (suc i) i (range_with_len (suc i) (many - suc i)) c.loop-i.rows.items refusal told in
    reads-refused c.from_residual-in_err-push_row.result refusal (rows_from (row_across columns) 1 (range_with_len 0 many)) c.from_residual-in_err-push_row.ensures.1
    (rw (← c.loop-i.invariant, left) fault)

pub loop-i-preserved : goal.loop-i-preserved
loop-i-preserved c =
    let i = c.loop-i.i in
    let many = length c.args.hps.now in
    let columns = c.args.hps.now ∷ c.args.ids.now ∷ c.args.xs.now ∷ c.args.ys.now ∷ c.args.zs.now ∷ [] in
    let added = c.in_ok-push_row.ensures.added in
    let values = rw (c.value_at.ensures, c.value_at-in-loop-i.ensures, c.value_at-in-loop-i-2.ensures, c.value_at-in-loop-i-3.ensures, c.value_at-in-loop-i-4.ensures) at c.row_across-row.ensures in
    let row = rw (add-one, values) at added.1 in
    let left = range-more i many c.loop-i-test.true in
    let more = joined-row (row_across columns) (suc i) i (range_with_len (suc i) (many - suc i)) c.loop-i.rows.items added.0 row in
    rw (add-one, added.2) (more ∙ ap (λ left. joined c.loop-i.rows.items (rows_from (row_across columns) (suc i) left)) (sym left) ∙ c.loop-i.invariant)
