use Rattle.hx_rows.proofs.OwnRows.{own_rows}
use Rattle.hx_rows.proofs.laws.rows_of_their_columns.Goals as goal

pub returns : goal.returns
returns c = own_rows c.rows_of_values.ensures.own
