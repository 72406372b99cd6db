use Rattle.hx_book.proofs.progress.Progress.add.Goals as goal

pub returns-then-task-ne-PLAN-clause-scheduled : goal.returns-then-task-ne-PLAN-clause-scheduled
returns-then-task-ne-PLAN-clause-scheduled c = λ done h yes. c.in_ok-add_other.ensures.scheduled done h

pub returns-clause-scheduled : goal.returns-clause-scheduled
returns-clause-scheduled c = λ done h yes. c.add_plan.ensures.scheduled done h
