use Rattle.hx_import.proofs.Sourced.{outside_cause, task_cause}
use Rattle.hx_import.proofs.carrying.hand_in.Goals as goal

pub refuse-requires-clause-task_cause : goal.refuse-requires-clause-task_cause
refuse-requires-clause-task_cause g c = task_cause g.J.Job.of g.Src.Source.source c.args.claimed.task c.args.claimed.source c.args.book.now.faults c.in-Err.refusal (rw c.in-Err.is at c.requires.cause)

pub refuse-requires-clause-outside_cause : goal.refuse-requires-clause-outside_cause
refuse-requires-clause-outside_cause g c =
    outside_cause g.J.Job.of g.Src.Source.source c.args.claimed.task c.args.claimed.source c.args.book.now.faults c.in-Err.refusal (rw c.in-Err.is at c.requires.cause)
