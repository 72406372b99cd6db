use Rattle.std.proofs.Common.{Err, None, rules, ◌≡◌, arith}
use Rattle.hx_book.specs.Tasks.{task}
use Rattle.hx_import.proofs.Working.{after_read, at_stage, map_recorded, read_failed, still_clear, still_same, unread_result, work_still}
use Rattle.hx_import.proofs.making.counts_of.Goals as goal

pub read_file-requires-clause-recorded : goal.read_file-requires-clause-recorded
read_file-requires-clause-recorded g c =
    map_recorded g.J.Job.of c.args.book.now c.args.book.now (task 2 0) c.requires.work (still_same c.args.book.now) c.args.number (omega arith) c.requires.there

pub read_file-requires-clause-unfinished : goal.read_file-requires-clause-unfinished
read_file-requires-clause-unfinished g c = at_stage g.J.Job.of c.args.book.now c.args.book.now (task 2 0) c.requires.work (still_same c.args.book.now) (omega arith)

pub read_file-requires-clause-clear : goal.read_file-requires-clause-clear
read_file-requires-clause-clear g c = still_clear g.J.Job.of c.args.book.now c.args.book.now (task 2 0) c.requires.work (still_same c.args.book.now)

pub returns-in_err-map-clause-cause : goal.returns-in_err-map-clause-cause
returns-in_err-map-clause-cause g c =
    let is : c.from_residual.result ≡ Err c.in_err-map.field-0.0 = search rules in
    rw is (read_failed g.J.Job.of g.Src.Source.source (task 2 0) None c.read_file.new.self.faults _ c.in_err-map.field-0.0 c.in_err-map.ensures.cause)

pub returns-in_err-map-clause-still : goal.returns-in_err-map-clause-still
returns-in_err-map-clause-still g c = after_read c.args.book.now c.read_file.new.self c.read_file.ensures.same c.read_file.ensures.shape c.read_file.ensures.later

pub returns-in_err-map-clause-work : goal.returns-in_err-map-clause-work
returns-in_err-map-clause-work g c =
    work_still g.J.Job.of c.args.book.now c.read_file.new.self (task 2 0) c.requires.work (after_read c.args.book.now c.read_file.new.self c.read_file.ensures.same c.read_file.ensures.shape c.read_file.ensures.later)

pub returns-clause-cause : goal.returns-clause-cause
returns-clause-cause g c = unread_result g.J.Job.of g.Src.Source.source (task 2 0) None c.read_file.new.self.faults c.counts_in.result c.counts_in.ensures.cause

pub returns-clause-still : goal.returns-clause-still
returns-clause-still g c = after_read c.args.book.now c.read_file.new.self c.read_file.ensures.same c.read_file.ensures.shape c.read_file.ensures.later

pub returns-clause-work : goal.returns-clause-work
returns-clause-work g c =
    work_still g.J.Job.of c.args.book.now c.read_file.new.self (task 2 0) c.requires.work (after_read c.args.book.now c.read_file.new.self c.read_file.ensures.same c.read_file.ensures.shape c.read_file.ensures.later)
