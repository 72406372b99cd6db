use Rattle.hx_import.proofs.Gathered.{around_added}
use Rattle.hx_import.proofs.tasks.gathering.add_margin_slice.Goals as goal

pub returns-clause-gathered : goal.returns-clause-gathered
returns-clause-gathered g c = around_added g.J.Job.of c.args.part c.args.before.now c.args.number c.args.gathered.now.items c.args.slice.now c.append.new.gathered.items c.requires.before c.requires.slice c.append.result c.append.ensures
