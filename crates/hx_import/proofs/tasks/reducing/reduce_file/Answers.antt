use Rattle.std.proofs.Common.{Ok}
use Rattle.hx_import.proofs.Reduced.{reduced}
use Rattle.hx_import.proofs.tasks.reducing.reduce_file.Goals as goal

pub returns-in-Ok-clause-value : goal.returns-in-Ok-clause-value
returns-in-Ok-clause-value g c = reduced g.J.Job.of c.requires.fits c.args.number c.args.rows.items c.requires.good c.requires.gathered (Ok c.in-Ok.file) c.in-Ok.ensures.value
