use Rattle.hx_import.proofs.Sourced.{home_same, own_bytes, read_failed_of}
use Rattle.hx_import.proofs.carrying.read_source.Goals as goal

pub returns-clause-home : goal.returns-clause-home
returns-clause-home g c = home_same g.J.Job.of g.Src.Source.source c.args.of.number c.args.source.now c.read_all.new.source c.requires.home c.read_all.ensures.same

pub returns-clause-bytes : goal.returns-clause-bytes
returns-clause-bytes g c =
    own_bytes g.J.Job.of g.Src.Source.source c.args.of.number c.args.source.now c.read_all.new.source c.requires.asked c.requires.home c.read_all.ensures.same c.read_all.result c.read_all.ensures.bytes

pub returns-clause-cause : goal.returns-clause-cause
returns-clause-cause g c = λ faults.
    read_failed_of g.J.Job.of g.Src.Source.source c.args.of c.args.source.now c.read_all.new.source faults c.read_all.result c.requires.home c.read_all.ensures.cause
