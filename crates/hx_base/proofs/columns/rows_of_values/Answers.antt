use Rattle.hx_base.proofs.RowValues.{good-row, own-row}
use Rattle.hx_base.proofs.columns.rows_of_values.Goals as goal

pub returns : goal.returns
returns c = record { own = own-row; good = good-row }
