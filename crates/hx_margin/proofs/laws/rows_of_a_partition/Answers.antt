use Rattle.hx_margin.proofs.Placing.{rows_good, rows_held}
use Rattle.hx_margin.proofs.laws.rows_of_a_partition.Goals as goal

pub returns-clause-held : goal.returns-clause-held
returns-clause-held c = rows_held

pub returns-clause-good : goal.returns-clause-good
returns-clause-good c = rows_good
