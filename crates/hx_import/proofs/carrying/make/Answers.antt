use Rattle.std.proofs.Common.{Err, None, rules, ◌≡◌, arith}
use Rattle.hx_book.specs.Books.{job_of}
use Rattle.hx_book.specs.Tasks.{task}
use Rattle.hx_import.proofs.Working.{as_task, failed_as, memory_result, still, still_same, value_as, work_at, work_still}
use Rattle.hx_import.proofs.carrying.make.Goals as goal

pub make_plan-requires-clause-work : goal.make_plan-requires-clause-work
make_plan-requires-clause-work g c =
    let same = as_task c.args.of 2 0 c.if-of-eq2.true c.if-of-eq0.true in
    work_at g.J.Job.of c.args.book.now c.args.of (task 2 0) same c.requires.work

pub returns-then-of-eq0-clause-value : goal.returns-then-of-eq0-clause-value
returns-then-of-eq0-clause-value g c =
    let same = as_task c.args.of 2 0 c.if-of-eq2.true c.if-of-eq0.true in
    value_as (job_of g.J.Job.of) g.J.Job.of.premises c.args.of (task 2 0) same c.make_plan.result c.make_plan.ensures.value

pub returns-then-of-eq0-clause-cause : goal.returns-then-of-eq0-clause-cause
returns-then-of-eq0-clause-cause g c =
    let same = as_task c.args.of 2 0 c.if-of-eq2.true c.if-of-eq0.true in
    failed_as g.J.Job.of g.Src.Source.source None c.make_plan.new.book.faults c.args.of (task 2 0) same c.make_plan.result c.make_plan.ensures.cause

pub make_properties-requires-clause-work : goal.make_properties-requires-clause-work
make_properties-requires-clause-work g c =
    let same = as_task c.args.of 8 0 c.if-of-eq8.true c.if-of-eq0-2.true in
    work_at g.J.Job.of c.args.book.now c.args.of (task 8 0) same c.requires.work

pub returns-then-of-eq0-2-clause-value : goal.returns-then-of-eq0-2-clause-value
returns-then-of-eq0-2-clause-value g c =
    let same = as_task c.args.of 8 0 c.if-of-eq8.true c.if-of-eq0-2.true in
    value_as (job_of g.J.Job.of) g.J.Job.of.premises c.args.of (task 8 0) same c.make_properties.result c.make_properties.ensures.value

pub returns-then-of-eq0-2-clause-cause : goal.returns-then-of-eq0-2-clause-cause
returns-then-of-eq0-2-clause-cause g c = memory_result g.J.Job.of g.Src.Source.source c.args.of None c.args.book.now.faults c.make_properties.result c.make_properties.ensures.cause

pub returns-then-of-eq0-2-clause-still : goal.returns-then-of-eq0-2-clause-still
returns-then-of-eq0-2-clause-still g c = still_same c.args.book.now

pub returns-then-of-lt4-clause-still : goal.returns-then-of-lt4-clause-still
returns-then-of-lt4-clause-still g c = still_same c.args.book.now

pub known_cut-requires-clause-planned : goal.known_cut-requires-clause-planned
known_cut-requires-clause-planned g c = omega (arith, c.if-of-lt4.false)

pub known_cut-requires-clause-unfinished : goal.known_cut-requires-clause-unfinished
known_cut-requires-clause-unfinished g c = omega (arith, c.if-of-gt7.false)

pub returns-in_err-cut-clause-cause : goal.returns-in_err-cut-clause-cause
returns-in_err-cut-clause-cause g c =
    let is : c.from_residual.result ≡ Err c.in_err-cut.field-0.0 = search rules in
    rw is c.in_err-cut.ensures.cause

pub make_by_cut-made-requires-clause-work : goal.make_by_cut-made-requires-clause-work
make_by_cut-made-requires-clause-work g c = work_still g.J.Job.of c.args.book.now c.known_cut.new.book c.args.of c.requires.work c.known_cut.ensures.still

pub returns-clause-value : goal.returns-clause-value
returns-clause-value g c = c.make_by_cut-made.ensures.value

pub returns-clause-cause : goal.returns-clause-cause
returns-clause-cause g c = c.make_by_cut-made.ensures.cause

pub returns-clause-still : goal.returns-clause-still
returns-clause-still g c = still c.args.book.now c.known_cut.new.book c.make_by_cut-made.new.book c.known_cut.ensures.still c.make_by_cut-made.ensures.still
