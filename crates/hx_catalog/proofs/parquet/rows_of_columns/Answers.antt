use Rattle.hx_catalog.proofs.Columned.{five}
use Rattle.hx_catalog.proofs.parquet.rows_of_columns.Goals as goal

pub returns : goal.returns
returns c =
    let read = rw (c.column.ensures, c.column-2.ensures, c.column-3.ensures, c.column-4.ensures, c.column-5.ensures) at c.rows_across.ensures in
    rw (five c.args.columns.now c.requires.five) at read
