use Rattle.std.proofs.Common.{◌∙◌, All, subst, sym}
use Rattle.std.proofs.lemmas.List.Elements.{All-push}
use Rattle.hx_base.specs.Columns.{value_in}
use Rattle.hx_base.specs.Rows.{IsGood}
use Rattle.hx_base.specs.declared.columns.Column.TheVariants as column
use Rattle.hx_catalog.proofs.Columned.{at-row, column-more, each-value}
use Rattle.hx_catalog.proofs.parquet.rows_across.Goals as goal

pub returns-in_default : goal.returns-in_default
returns-in_default c rows good same =
    let at = at-row rows c.args.hps.now c.args.ids.now c.args.xs.now c.args.ys.now c.args.zs.now c.loop-i.i good same c.loop-i-test.true in
    let none = rw (c.value_at.ensures, c.value_at-in-loop-i.ensures, c.value_at-in-loop-i-2.ensures, c.value_at-in-loop-i-3.ensures, c.value_at-in-loop-i-4.ensures) at c.in_default.ensures in
    none at.0 at.1 at.2

pub loop-i-preserved : goal.loop-i-preserved
loop-i-preserved c =
    let rows = c.loop-i.rows.items in
    let new = c.push_row.new.rows.items in
    let row = c.in-Some.row in
    let i = c.loop-i.i in
    let added = c.in_ok-push_row.ensures in
    let values = each-value row c.value_at.result c.value_at-in-loop-i.result c.value_at-in-loop-i-2.result c.value_at-in-loop-i-3.result c.value_at-in-loop-i-4.result c.in-Some.ensures.1 in
    record {
      good = subst (All IsGood) (sym added) (All-push IsGood rows row c.loop-i.invariant.good c.in-Some.ensures.0);
      hps = column-more (value_in column.Position) rows new row c.args.hps.now i added c.loop-i.invariant.hps (sym c.value_at.ensures ∙ values.0);
      ids = column-more (value_in column.Id) rows new row c.args.ids.now i added c.loop-i.invariant.ids (sym c.value_at-in-loop-i.ensures ∙ values.1);
      xs = column-more (value_in column.X) rows new row c.args.xs.now i added c.loop-i.invariant.xs (sym c.value_at-in-loop-i-2.ensures ∙ values.2);
      ys = column-more (value_in column.Y) rows new row c.args.ys.now i added c.loop-i.invariant.ys (sym c.value_at-in-loop-i-3.ensures ∙ values.3);
      zs = column-more (value_in column.Z) rows new row c.args.zs.now i added c.loop-i.invariant.zs (sym c.value_at-in-loop-i-4.ensures ∙ values.4);
    }
