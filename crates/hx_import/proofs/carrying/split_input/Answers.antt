use Rattle.std.proofs.Common.{Err, Some, rules, ◌≡◌, arith}
use Rattle.hx_book.specs.Tasks.{task}
use Rattle.hx_import.proofs.Working.{after_read, at_stage, map_recorded, read_failed, refused_result, still_same}
use Rattle.hx_import.proofs.Sourced.{home_number}
use Rattle.hx_import.proofs.carrying.split_input.Goals as goal

pub returns-in_err-bytes-clause-cause : goal.returns-in_err-bytes-clause-cause
returns-in_err-bytes-clause-cause g c =
    let is : c.from_residual.result ≡ Err c.in_err-bytes.field-0.0 = search rules in
    rw is (c.in_err-bytes.ensures.cause c.args.book.now.faults)

pub returns-in_err-bytes-clause-still : goal.returns-in_err-bytes-clause-still
returns-in_err-bytes-clause-still g c = still_same c.args.book.now

pub read_file-requires-clause-recorded : goal.read_file-requires-clause-recorded
read_file-requires-clause-recorded g c =
    map_recorded g.J.Job.of c.args.book.now c.args.book.now (task 3 c.args.number) c.requires.work (still_same c.args.book.now) c.args.number (omega arith) (home_number g.J.Job.of g.Src.Source.source c.args.number c.args.source.now c.requires.home)

pub read_file-requires-clause-unfinished : goal.read_file-requires-clause-unfinished
read_file-requires-clause-unfinished g c = at_stage g.J.Job.of c.args.book.now c.args.book.now (task 3 c.args.number) c.requires.work (still_same c.args.book.now) (omega arith)

pub returns-in_err-map-clause-cause : goal.returns-in_err-map-clause-cause
returns-in_err-map-clause-cause g c =
    let is : c.from_residual-in_err-map.result ≡ Err c.in_err-map.field-0.0 = search rules in
    rw is (read_failed g.J.Job.of g.Src.Source.source (task 3 c.args.number) (Some c.read_source.new.source) c.read_file.new.self.faults _ c.in_err-map.field-0.0 c.in_err-map.ensures.cause)

pub returns-in_err-map-clause-still : goal.returns-in_err-map-clause-still
returns-in_err-map-clause-still g c = after_read c.args.book.now c.read_file.new.self c.read_file.ensures.same c.read_file.ensures.shape c.read_file.ensures.later

pub split_file-requires-clause-input : goal.split_file-requires-clause-input
split_file-requires-clause-input g c = rw (c.name.ensures, c.deref.ensures.value) c.in_ok-bytes.ensures.bytes

pub returns-clause-cause : goal.returns-clause-cause
returns-clause-cause g c = refused_result g.J.Job.of g.Src.Source.source (task 3 c.args.number) (Some c.read_source.new.source) c.read_file.new.self.faults c.split_file.result c.split_file.ensures.cause

pub returns-clause-still : goal.returns-clause-still
returns-clause-still g c = after_read c.args.book.now c.read_file.new.self c.read_file.ensures.same c.read_file.ensures.shape c.read_file.ensures.later
