use Rattle.hx_base.proofs.RowOrder.{rows_exact, rows_total}
use Rattle.hx_base.proofs.laws.order_of_rows.Goals as goal

pub returns-clause-total : goal.returns-clause-total
returns-clause-total c = rows_total

pub returns-clause-exact : goal.returns-clause-exact
returns-clause-exact c = rows_exact
