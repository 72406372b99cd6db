use Rattle.std.proofs.Common.{◌≡◌, ◌∙◌, ◌≤◌, List, Ok, ap, arith, length}
use Rattle.std.specs.List.{All}
use Rattle.std.proofs.lemmas.Result.{IfOk-weaker}
use Rattle.hx_base.specs.declared.row.Row.{Row}
use Rattle.hx_base.specs.Limits.{most_rows}
use Rattle.hx_base.specs.Rows.{IsGood, sorted_rows}
use Rattle.hx_rows.specs.Parquet.{parquet_rows}
use Rattle.hx_margin.proofs.Placing.{good_sorted, length_sorted}
use Rattle.hx_margin.proofs.reducing.margin_reduce.Goals as goal

pub write-requires : goal.write-requires
write-requires c = λ k d lt.
    let is : c.deref.result.now ≡ sorted_rows c.args.rows.items = c.deref.ensures.value ∙ c.sorted-rows.ensures in
    let good = good_sorted c.args.rows.items c.deref.result.now is c.requires k d lt in
    omega (arith, good.pixel)

pub returns-clause-rows : goal.returns-clause-rows
returns-clause-rows c =
    let rows = c.args.rows.items in
    let is : c.deref.result.now ≡ sorted_rows c.args.rows.items = c.deref.ensures.value ∙ c.sorted-rows.ensures in
    let good = good_sorted rows c.deref.result.now is c.requires in
    let size = length_sorted rows c.deref.result.now is in
    IfOk-weaker c.write.result (λ bytes. All IsGood c.deref.result.now → length c.deref.result.now ≤ most_rows → parquet_rows bytes.items ≡ Ok c.deref.result.now) (λ bytes. length rows ≤ most_rows → parquet_rows bytes.items ≡ Ok (sorted_rows rows))
    (λ bytes reads few. reads good (omega (arith, size, few)) ∙ ap (λ (xs : List Row). Ok xs) is) c.write.ensures.rows
