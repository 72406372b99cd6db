use Rattle.hx_book.proofs.Ones.{parts_same}
use Rattle.hx_book.proofs.Steps.{same_records}
use Rattle.hx_book.proofs.laws.jobs_have_one_plan.Goals as goal

pub returns-clause-parts : goal.returns-clause-parts
returns-clause-parts c = parts_same

pub returns-clause-records : goal.returns-clause-records
returns-clause-records c = same_records
