use Rattle.hx_book.proofs.Parts.{one_file, task_numbered}
use Rattle.hx_book.proofs.Paths.{journal_apart, temporary_apart}
use Rattle.hx_book.proofs.laws.files_tell_tasks.Goals as goal

pub returns-clause-apart : goal.returns-clause-apart
returns-clause-apart c = λ job t u p q few. one_file job few t u p q

pub returns-clause-journal : goal.returns-clause-journal
returns-clause-journal c = λ job t p few is. journal_apart job.settings.name p t (task_numbered job few t is)

pub returns-clause-temporary : goal.returns-clause-temporary
returns-clause-temporary c = λ job t p few is. temporary_apart job.settings.name p t (task_numbered job few t is)
