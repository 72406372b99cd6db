use Rattle.hx_book.proofs.Steps.{created_step, notes_step, published_step, trimmed_step}
use Rattle.hx_book.proofs.laws.steps_are_resumable.Goals as goal

pub returns-clause-created : goal.returns-clause-created
returns-clause-created c = λ job f g few. created_step job few f g

pub returns-clause-trimmed : goal.returns-clause-trimmed
returns-clause-trimmed c = λ job f g few. trimmed_step job few f g

pub returns-clause-published : goal.returns-clause-published
returns-clause-published c = λ job f g records t parts bytes few. published_step job few f g records t parts bytes

pub returns-clause-noted : goal.returns-clause-noted
returns-clause-noted c = λ job f g records r few. notes_step job few f g records r
