use Rattle.std.proofs.Common.{None, subst, ℕ, ◌∙◌}
use Rattle.hx_book.specs.Books.{job_of}
use Rattle.hx_book.specs.Tasks.{task}
use Rattle.hx_book.proofs.Keeping.{inputs_are}
use Rattle.hx_import.specs.Given.{CountsFirst}
use Rattle.hx_import.proofs.Working.{refused_result}
use Rattle.hx_import.proofs.making.make_plan.Goals as goal

pub plan_file-requires-clause-counts : goal.plan_file-requires-clause-counts
plan_file-requires-clause-counts g c = λ p.
    subst (λ (n : ℕ). CountsFirst (job_of g.J.Job.of) n c.in_ok-sum.sum) (c.inputs-inputs.ensures.all ∙ inputs_are g.J.Job.of) (c.in_ok-sum.ensures.counts p)

pub returns-clause-cause : goal.returns-clause-cause
returns-clause-cause g c = refused_result g.J.Job.of g.Src.Source.source (task 2 0) None c.counts_between.new.book.faults c.plan_file.result c.plan_file.ensures.cause
