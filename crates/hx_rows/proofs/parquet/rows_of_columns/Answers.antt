use Rattle.hx_rows.proofs.Across.{reads-columns}
use Rattle.hx_rows.proofs.parquet.rows_of_columns.Goals as goal

pub returns : goal.returns
returns c =
    reads-columns c.args.columns.now c.rows_across.result c.requires.five
    (rw (c.column.ensures, c.column-2.ensures, c.column-3.ensures, c.column-4.ensures, c.column-5.ensures) at c.rows_across.ensures)
