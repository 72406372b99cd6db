use Rattle.std.proofs.Common.{Ok, ap}
use Rattle.hx_base.specs.declared.settings.Settings.{Settings}
use Rattle.hx_import.proofs.Inputs.{mapped}
use Rattle.hx_import.proofs.tasks.mapping.map_file.Goals as goal

pub returns-in-Ok-clause-value : goal.returns-in-Ok-clause-value
returns-in-Ok-clause-value g c =
    mapped g.J.Job.of c.args.number c.args.name.now c.args.bytes.now c.requires.input c.args.settings.now.highest (Ok c.in-Ok.file) (ap (λ (s : Settings). s.highest) c.requires.settings) c.in-Ok.ensures
