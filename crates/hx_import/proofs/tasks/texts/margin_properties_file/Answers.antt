use Rattle.hx_import.proofs.Written.{margin_text_told}
use Rattle.hx_import.proofs.tasks.texts.margin_properties_file.Goals as goal

pub returns-clause-value : goal.returns-clause-value
returns-clause-value g c = margin_text_told g.J.Job.of c.args.settings.now c.args.margin c.args.partitions c.requires.settings c.text_of.result c.text_of.ensures.text c.requires.numbers
