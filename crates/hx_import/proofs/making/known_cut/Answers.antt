use Rattle.std.proofs.Common.{Err, rules, None, ◌≡◌, arith}
use Rattle.hx_import.proofs.Working.{after_read, at_stage, plan_recorded, read_failed, still_same, unread_result}
use Rattle.hx_import.proofs.making.known_cut.Goals as goal

pub returns-in-Some-clause-still : goal.returns-in-Some-clause-still
returns-in-Some-clause-still g c = still_same c.args.book.now

pub read_file-requires-clause-recorded : goal.read_file-requires-clause-recorded
read_file-requires-clause-recorded g c = plan_recorded g.J.Job.of c.args.book.now c.args.book.now c.args.of c.requires.work (still_same c.args.book.now) (omega (arith, c.requires.planned))

pub read_file-requires-clause-unfinished : goal.read_file-requires-clause-unfinished
read_file-requires-clause-unfinished g c = at_stage g.J.Job.of c.args.book.now c.args.book.now c.args.of c.requires.work (still_same c.args.book.now) c.requires.unfinished

pub returns-in_err-plan-clause-cause : goal.returns-in_err-plan-clause-cause
returns-in_err-plan-clause-cause g c =
    let is : c.from_residual.result ≡ Err c.in_err-plan.field-0.0 = search rules in
    rw is (read_failed g.J.Job.of g.Src.Source.source c.args.of None c.read_file.new.self.faults _ c.in_err-plan.field-0.0 c.in_err-plan.ensures.cause)

pub returns-in_err-plan-clause-still : goal.returns-in_err-plan-clause-still
returns-in_err-plan-clause-still g c = after_read c.args.book.now c.read_file.new.self c.read_file.ensures.same c.read_file.ensures.shape c.read_file.ensures.later

pub returns-clause-cause : goal.returns-clause-cause
returns-clause-cause g c = unread_result g.J.Job.of g.Src.Source.source c.args.of None c.read_file.new.self.faults c.read_cut.result c.read_cut.ensures.cause

pub returns-clause-still : goal.returns-clause-still
returns-clause-still g c = after_read c.args.book.now c.read_file.new.self c.read_file.ensures.same c.read_file.ensures.shape c.read_file.ensures.later
