use Rattle.std.proofs.Common.{subst, ◌∙◌, ℕ}
use Rattle.hx_book.specs.Books.{job_of}
use Rattle.hx_hist.specs.Histograms.{IsHistogram}
use Rattle.hx_import.proofs.Counted.{both_counted}
use Rattle.hx_import.proofs.tasks.planning.add_counts.Goals as goal

pub returns-clause-counts : goal.returns-clause-counts
returns-clause-counts g c = λ from mid to low high first next.
    let done = c.in_ok-merge.ensures in
    let order = done.order ∙ c.requires.order in
    both_counted (job_of g.J.Job.of) from mid to c.args.sum.now c.args.more.now c.merge.new.self low high first next
    (record { order_is = order; histogram = subst (λ (k : ℕ). IsHistogram k c.merge.new.self.pairs) order c.pairs-pairs.ensures.histogram; counts = done.counts; total = done.total })
