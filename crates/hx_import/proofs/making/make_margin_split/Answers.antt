use Rattle.std.proofs.Common.{Err, rules, None, ◌≡◌, arith}
use Rattle.std.proofs.lemmas.Option.{slice_get_within}
use Rattle.hx_book.specs.Tasks.{task}
use Rattle.hx_import.proofs.Working.{after_read, at_stage, read_failed, rows_recorded, still_same, unread_failed, unread_result}
use Rattle.hx_import.proofs.making.make_margin_split.Goals as goal

pub returns-in_err-part-clause-cause : goal.returns-in_err-part-clause-cause
returns-in_err-part-clause-cause g c =
    let is : c.from_residual.result ≡ Err c.in_err-part.field-0.0 = search rules in
    rw is (unread_failed g.J.Job.of g.Src.Source.source (task 5 c.args.number) None c.args.book.now.faults c.in_err-part.field-0.0 c.in_err-part.ensures.cause)

pub returns-in_err-part-clause-still : goal.returns-in_err-part-clause-still
returns-in_err-part-clause-still g c = still_same c.args.book.now

pub read_file-requires-clause-recorded : goal.read_file-requires-clause-recorded
read_file-requires-clause-recorded g c =
    rows_recorded g.J.Job.of c.args.book.now c.args.book.now (task 5 c.args.number) c.requires.work (still_same c.args.book.now) c.args.cut.now.plan c.args.cut.now.tree c.requires.cut c.args.number
    (slice_get_within c.args.cut.now.tree c.args.number c.in_ok-part.part c.in_ok-part.ensures.part) (omega arith)

pub read_file-requires-clause-unfinished : goal.read_file-requires-clause-unfinished
read_file-requires-clause-unfinished g c = at_stage g.J.Job.of c.args.book.now c.args.book.now (task 5 c.args.number) c.requires.work (still_same c.args.book.now) (omega arith)

pub returns-in_err-rows-clause-cause : goal.returns-in_err-rows-clause-cause
returns-in_err-rows-clause-cause g c =
    let is : c.from_residual-in_err-rows.result ≡ Err c.in_err-rows.field-0.0 = search rules in
    rw is (read_failed g.J.Job.of g.Src.Source.source (task 5 c.args.number) None c.read_file.new.self.faults _ c.in_err-rows.field-0.0 c.in_err-rows.ensures.cause)

pub returns-in_err-rows-clause-still : goal.returns-in_err-rows-clause-still
returns-in_err-rows-clause-still g c = after_read c.args.book.now c.read_file.new.self c.read_file.ensures.same c.read_file.ensures.shape c.read_file.ensures.later

pub returns-clause-cause : goal.returns-clause-cause
returns-clause-cause g c = unread_result g.J.Job.of g.Src.Source.source (task 5 c.args.number) None c.read_file.new.self.faults c.margin_split_file.result c.margin_split_file.ensures.cause

pub returns-clause-still : goal.returns-clause-still
returns-clause-still g c = after_read c.args.book.now c.read_file.new.self c.read_file.ensures.same c.read_file.ensures.shape c.read_file.ensures.later
