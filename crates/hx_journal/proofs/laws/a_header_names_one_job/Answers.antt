use Rattle.hx_journal.proofs.Jobs.{one-job, says-one}
use Rattle.hx_journal.proofs.laws.a_header_names_one_job.Goals as goal

pub returns-clause-heading : goal.returns-clause-heading
returns-clause-heading c = says-one

pub returns-clause-job : goal.returns-clause-job
returns-clause-job c = one-job
