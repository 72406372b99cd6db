use Rattle.std.proofs.Common.{None, refl}
use Rattle.hx_book.specs.Books.{job_of}
use Rattle.hx_book.specs.Tasks.{task}
use Rattle.hx_import.proofs.Working.{as_task, failed_as, memory_result, still_same, value_as, work_at}
use Rattle.hx_import.proofs.carrying.make_by_cut.Goals as goal

pub make_part-requires-clause-work : goal.make_part-requires-clause-work
make_part-requires-clause-work g c =
    let same = as_task c.args.of 4 c.args.of.number c.if-of-eq4.true refl in
    work_at g.J.Job.of c.args.book.now c.args.of (task 4 c.args.of.number) same c.requires.work

pub returns-then-of-eq4-clause-value : goal.returns-then-of-eq4-clause-value
returns-then-of-eq4-clause-value g c =
    let same = as_task c.args.of 4 c.args.of.number c.if-of-eq4.true refl in
    value_as (job_of g.J.Job.of) g.J.Job.of.premises c.args.of (task 4 c.args.of.number) same c.make_part.result c.make_part.ensures.value

pub returns-then-of-eq4-clause-cause : goal.returns-then-of-eq4-clause-cause
returns-then-of-eq4-clause-cause g c =
    let same = as_task c.args.of 4 c.args.of.number c.if-of-eq4.true refl in
    failed_as g.J.Job.of g.Src.Source.source None c.make_part.new.book.faults c.args.of (task 4 c.args.of.number) same c.make_part.result c.make_part.ensures.cause

pub make_margin_split-requires-clause-work : goal.make_margin_split-requires-clause-work
make_margin_split-requires-clause-work g c =
    let same = as_task c.args.of 5 c.args.of.number c.if-of-eq5.true refl in
    work_at g.J.Job.of c.args.book.now c.args.of (task 5 c.args.of.number) same c.requires.work

pub returns-then-of-eq5-clause-value : goal.returns-then-of-eq5-clause-value
returns-then-of-eq5-clause-value g c =
    let same = as_task c.args.of 5 c.args.of.number c.if-of-eq5.true refl in
    value_as (job_of g.J.Job.of) g.J.Job.of.premises c.args.of (task 5 c.args.of.number) same c.make_margin_split.result c.make_margin_split.ensures.value

pub returns-then-of-eq5-clause-cause : goal.returns-then-of-eq5-clause-cause
returns-then-of-eq5-clause-cause g c =
    let same = as_task c.args.of 5 c.args.of.number c.if-of-eq5.true refl in
    failed_as g.J.Job.of g.Src.Source.source None c.make_margin_split.new.book.faults c.args.of (task 5 c.args.of.number) same c.make_margin_split.result c.make_margin_split.ensures.cause

pub make_margin-requires-clause-work : goal.make_margin-requires-clause-work
make_margin-requires-clause-work g c =
    let same = as_task c.args.of 6 c.args.of.number c.if-of-eq6.true refl in
    work_at g.J.Job.of c.args.book.now c.args.of (task 6 c.args.of.number) same c.requires.work

pub returns-then-of-eq6-clause-value : goal.returns-then-of-eq6-clause-value
returns-then-of-eq6-clause-value g c =
    let same = as_task c.args.of 6 c.args.of.number c.if-of-eq6.true refl in
    value_as (job_of g.J.Job.of) g.J.Job.of.premises c.args.of (task 6 c.args.of.number) same c.make_margin.result c.make_margin.ensures.value

pub returns-then-of-eq6-clause-cause : goal.returns-then-of-eq6-clause-cause
returns-then-of-eq6-clause-cause g c =
    let same = as_task c.args.of 6 c.args.of.number c.if-of-eq6.true refl in
    failed_as g.J.Job.of g.Src.Source.source None c.make_margin.new.book.faults c.args.of (task 6 c.args.of.number) same c.make_margin.result c.make_margin.ensures.cause

pub make_list-requires-clause-work : goal.make_list-requires-clause-work
make_list-requires-clause-work g c =
    let same = as_task c.args.of 7 c.args.of.number c.if-of-eq7.true refl in
    work_at g.J.Job.of c.args.book.now c.args.of (task 7 c.args.of.number) same c.requires.work

pub returns-then-of-eq7-clause-value : goal.returns-then-of-eq7-clause-value
returns-then-of-eq7-clause-value g c =
    let same = as_task c.args.of 7 c.args.of.number c.if-of-eq7.true refl in
    value_as (job_of g.J.Job.of) g.J.Job.of.premises c.args.of (task 7 c.args.of.number) same c.make_list.result c.make_list.ensures.value

pub returns-then-of-eq7-clause-cause : goal.returns-then-of-eq7-clause-cause
returns-then-of-eq7-clause-cause g c = memory_result g.J.Job.of g.Src.Source.source c.args.of None c.args.book.now.faults c.make_list.result c.make_list.ensures.cause

pub returns-then-of-eq7-clause-still : goal.returns-then-of-eq7-clause-still
returns-then-of-eq7-clause-still g c = still_same c.args.book.now

pub returns-clause-still : goal.returns-clause-still
returns-clause-still g c = still_same c.args.book.now
