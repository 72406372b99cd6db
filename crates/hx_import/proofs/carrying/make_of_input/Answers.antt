use Rattle.std.proofs.Common.{Err, Some, rules, refl, ◌≡◌, arith}
use Rattle.hx_book.specs.Books.{job_of}
use Rattle.hx_book.specs.Tasks.{task}
use Rattle.hx_import.proofs.Working.{as_task, failed_as, still, value_as, wider_own, work_at, work_still}
use Rattle.hx_import.proofs.carrying.make_of_input.Goals as goal

pub returns-then-of-eq1-clause-home : goal.returns-then-of-eq1-clause-home
returns-then-of-eq1-clause-home g c = c.map_input.ensures.home

pub returns-then-of-eq1-clause-value : goal.returns-then-of-eq1-clause-value
returns-then-of-eq1-clause-value g c =
    let same = as_task c.args.of 1 c.args.of.number c.if-of-eq1.true refl in
    value_as (job_of g.J.Job.of) g.J.Job.of.premises c.args.of (task 1 c.args.of.number) same c.map_input.result c.map_input.ensures.value

pub returns-then-of-eq1-clause-cause : goal.returns-then-of-eq1-clause-cause
returns-then-of-eq1-clause-cause g c =
    let same = as_task c.args.of 1 c.args.of.number c.if-of-eq1.true refl in
    failed_as g.J.Job.of g.Src.Source.source (Some c.map_input.new.source) c.args.book.now.faults c.args.of (task 1 c.args.of.number) same c.map_input.result (c.map_input.ensures.cause c.args.book.now.faults)

pub known_cut-requires-clause-planned : goal.known_cut-requires-clause-planned
known_cut-requires-clause-planned g c = omega (arith, c.if-of-ne3.false)

pub known_cut-requires-clause-unfinished : goal.known_cut-requires-clause-unfinished
known_cut-requires-clause-unfinished g c = omega (arith, c.if-of-ne3.false)

pub returns-in_err-cut-clause-cause : goal.returns-in_err-cut-clause-cause
returns-in_err-cut-clause-cause g c =
    let is : c.from_residual.result ≡ Err c.in_err-cut.field-0.0 = search rules in
    rw is (wider_own g.J.Job.of g.Src.Source.source (Some c.args.source.now) c.known_cut.new.book.faults c.args.of c.in_err-cut.field-0.0 c.in_err-cut.ensures.cause)

pub split_input-made-requires-clause-work : goal.split_input-made-requires-clause-work
split_input-made-requires-clause-work g c =
    let same = as_task c.args.of 3 c.args.of.number c.if-of-ne3.false refl in
    work_at g.J.Job.of c.known_cut.new.book c.args.of (task 3 c.args.of.number) same (work_still g.J.Job.of c.args.book.now c.known_cut.new.book c.args.of c.requires.work c.known_cut.ensures.still)

pub returns-clause-value : goal.returns-clause-value
returns-clause-value g c =
    let same = as_task c.args.of 3 c.args.of.number c.if-of-ne3.false refl in
    value_as (job_of g.J.Job.of) g.J.Job.of.premises c.args.of (task 3 c.args.of.number) same c.split_input-made.result c.split_input-made.ensures.value

pub returns-clause-cause : goal.returns-clause-cause
returns-clause-cause g c =
    let same = as_task c.args.of 3 c.args.of.number c.if-of-ne3.false refl in
    failed_as g.J.Job.of g.Src.Source.source (Some c.split_input-made.new.source) c.split_input-made.new.book.faults c.args.of (task 3 c.args.of.number) same c.split_input-made.result c.split_input-made.ensures.cause

pub returns-clause-still : goal.returns-clause-still
returns-clause-still g c = still c.args.book.now c.known_cut.new.book c.split_input-made.new.book c.known_cut.ensures.still c.split_input-made.ensures.still
