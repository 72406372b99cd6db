use Rattle.std.proofs.Common.{Ok, arith}
use Rattle.hx_import.proofs.Margined.{margin}
use Rattle.hx_import.proofs.tasks.margins.margin_file.Goals as goal

pub returns-in-Ok-clause-value : goal.returns-in-Ok-clause-value
returns-in-Ok-clause-value g c =
    margin c.partitions_of_rows.ensures.each_once c.partitions_of_rows.ensures.disjoint g.J.Job.of c.requires.fits c.args.number c.args.part c.args.numbers.now c.args.rows.items c.requires.good
    (omega (arith, c.if-len-gt-MOST_ROWS.false, c.len.ensures)) c.args.cut.now.plan c.args.cut.now.tree c.requires.cut c.requires.part c.requires.around c.requires.gathered (Ok c.in-Ok.file) c.in-Ok.ensures.value
