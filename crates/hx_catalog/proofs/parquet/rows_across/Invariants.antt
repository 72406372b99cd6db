use Rattle.std.proofs.Common.{◌≡◌, All, map, take}
use Rattle.hx_base.specs.Columns.{value_in}
use Rattle.hx_base.specs.Rows.{IsGood}
use Rattle.hx_base.specs.declared.columns.Column.TheVariants as column
use Rattle.hx_catalog.proofs.parquet.rows_across.Given as goal

-- the rows so far have the values so far
abbrev pub invariant-loop-i : goal.invariant-loop-i
invariant-loop-i l = record {
  good : All IsGood l.rows.items;
  hps : map (value_in column.Position) l.rows.items ≡ take l.i l.hps;
  ids : map (value_in column.Id) l.rows.items ≡ take l.i l.ids;
  xs : map (value_in column.X) l.rows.items ≡ take l.i l.xs;
  ys : map (value_in column.Y) l.rows.items ≡ take l.i l.ys;
  zs : map (value_in column.Z) l.rows.items ≡ take l.i l.zs;
}
