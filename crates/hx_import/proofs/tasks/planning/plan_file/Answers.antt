use Rattle.std.proofs.Common.{Ok}
use Rattle.hx_import.proofs.Counted.{planned}
use Rattle.hx_import.proofs.tasks.planning.plan_file.Goals as goal

pub returns-in-Ok-clause-value : goal.returns-in-Ok-clause-value
returns-in-Ok-clause-value g c = planned g.J.Job.of c.args.counts.now c.requires.counts c.args.settings.now c.requires.settings (Ok c.in-Ok.file) c.in-Ok.ensures.rows
