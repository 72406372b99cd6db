use Rattle.std.proofs.Common.{ap}
use Rattle.hx_book.specs.Books.{job_of}
use Rattle.hx_book.specs.Tasks.{task}
use Rattle.hx_import.proofs.Working.{value_as, work_at}
use Rattle.hx_import.proofs.making.make_list.Goals as goal

pub returns-in-0-clause-value : goal.returns-in-0-clause-value
returns-in-0-clause-value g c = value_as (job_of g.J.Job.of) g.J.Job.of.premises (task 7 c.args.number) (task 7 0) (ap (task 7) c.in-0.is) c.list_file.result c.list_file.ensures.own

pub returns-in-1-clause-value : goal.returns-in-1-clause-value
returns-in-1-clause-value g c = value_as (job_of g.J.Job.of) g.J.Job.of.premises (task 7 c.args.number) (task 7 1) (ap (task 7) c.in-1.is) c.list_file-in-1.result c.list_file-in-1.ensures.margin

pub make_margin_properties-requires-clause-work : goal.make_margin_properties-requires-clause-work
make_margin_properties-requires-clause-work g c = work_at g.J.Job.of c.args.book.now (task 7 c.args.number) (task 7 2) (ap (task 7) c.in-2.is) c.requires.work

pub returns-in-2-clause-value : goal.returns-in-2-clause-value
returns-in-2-clause-value g c = value_as (job_of g.J.Job.of) g.J.Job.of.premises (task 7 c.args.number) (task 7 2) (ap (task 7) c.in-2.is) c.make_margin_properties.result c.make_margin_properties.ensures.value
