use Rattle.hx_import.proofs.Gathered.{slice_added}
use Rattle.hx_import.proofs.tasks.gathering.add_slice.Goals as goal

pub returns-clause-gathered : goal.returns-clause-gathered
returns-clause-gathered g c = slice_added g.J.Job.of c.args.part c.args.input c.args.gathered.now.items c.args.slice.now c.append.new.gathered.items c.requires.before c.requires.slice c.append.result c.append.ensures
