use Rattle.std.proofs.Common.{◌≡◌, ◌-◌, false, get_or, is_lt, pos}
use Rattle.hx_base.specs.Rows.{row_cmp}
use Rattle.hx_base.specs.declared.row.Row.{Row}
use Rattle.hx_catalog.proofs.Columned.{sorted-more}
use Rattle.hx_catalog.proofs.parquet.ascend.Goals as goal

pub loop-i-preserved : goal.loop-i-preserved
loop-i-preserved c =
    let none : Row = record { hp = 0; id = pos 0; x = pos 0; y = pos 0; z = pos 0 } in
    let rows = c.args.rows.now in
    let i = c.loop-i.i in
    let last : is_lt (row_cmp (get_or rows i none) (get_or rows (i - 1) none)) ≡ false = cc (c.if-is_lt.false, c.is_lt.ensures, c.compare_rows.ensures) in
    sorted-more rows i none c.loop-i.auto.i c.loop-i-test.true c.loop-i.invariant last
