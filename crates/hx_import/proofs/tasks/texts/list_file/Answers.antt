use Rattle.hx_import.proofs.Written.{listed, margin_listed}
use Rattle.hx_import.proofs.tasks.texts.list_file.Goals as goal

pub returns-clause-own : goal.returns-clause-own
returns-clause-own g c = listed g.J.Job.of c.in_ok-list_text.field-0.items c.args.cut.now.plan c.args.cut.now.tree c.requires.cut (rw c.parts.ensures.parts at c.in_ok-list_text.ensures)

pub returns-clause-margin : goal.returns-clause-margin
returns-clause-margin g c = margin_listed g.J.Job.of c.in_ok-list_text.field-0.items c.args.cut.now.plan c.args.cut.now.tree c.requires.cut (rw c.parts.ensures.parts at c.in_ok-list_text.ensures)
