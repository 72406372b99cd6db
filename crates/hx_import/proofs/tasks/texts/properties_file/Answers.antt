use Rattle.hx_import.proofs.Written.{text_told}
use Rattle.hx_import.proofs.tasks.texts.properties_file.Goals as goal

pub returns-clause-value : goal.returns-clause-value
returns-clause-value g c = text_told g.J.Job.of c.args.settings.now c.args.rows c.args.partitions c.requires.settings c.text_of.result c.text_of.ensures.text c.requires.numbers
