use Rattle.std.proofs.Common.{sym, ◌∙◌}
use Rattle.hx_import.proofs.Cuts.{part_there}
use Rattle.hx_import.proofs.tasks.cutting.part_of.Goals as goal

pub returns-in-None-clause-cause : goal.returns-in-None-clause-cause
returns-in-None-clause-cause g c = λ t. rw c.damaged.ensures (λ p.
    part_there g.J.Job.of c.args.cut.now.plan c.args.cut.now.tree c.args.task c.requires.cut c.requires.kind p (c.requires.is p) (rw c.parts.ensures.parts at (sym c.pixel_at.ensures ∙ c.in-None.is)))
