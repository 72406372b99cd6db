use Rattle.hx_book.proofs.Walking.{plan_after}
use Rattle.hx_book.proofs.progress.Progress.add_plan.Goals as goal

pub returns-clause-scheduled : goal.returns-clause-scheduled
returns-clause-scheduled c = λ done h.
    let was = c.args.self.now in
    let e = c.open_next.ensures in
    rw (e.same.0, e.same.1, e.start.0, e.start.1)
    (plan_after was.inputs was.partitions done was.stage was.from was.flags.items h c.args.task c.requires.is_open c.args.partitions c.open_next.new.self.stage c.requires.plan e.later e.most e.empty e.some)
