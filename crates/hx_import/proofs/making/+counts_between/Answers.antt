use Rattle.std.proofs.Common.{Err, IfOk, rules, ◌≡◌, ◌≤◌, ◌+◌, ◌-◌, ◌*◌, ◌/◌, arith, subst, ℕ}
use Rattle.hx_base.specs.Limits.{most_rows}
use Rattle.hx_book.specs.Books.{job_of}
use Rattle.hx_book.proofs.Keeping.{inputs_are}
use Rattle.hx_hist.specs.Histograms.{total_of}
use Rattle.hx_import.specs.Given.{CountsBetween}
use Rattle.hx_import.proofs.Counted.{empty_counted, empty_order, empty_total}
use Rattle.hx_import.proofs.Working.{still, still_same}
use Rattle.hx_import.proofs.making.+counts_between.Goals as goal

pub returns-then-count-eq0-clause-order : goal.returns-then-count-eq0-clause-order
returns-then-count-eq0-clause-order g t c = empty_order g.J.Job.of c.args.settings.now c.requires.settings c.new.result c.new.ensures

pub returns-then-count-eq0-clause-total : goal.returns-then-count-eq0-clause-total
returns-then-count-eq0-clause-total g t c = empty_total g.J.Job.of c.args.settings.now c.requires.settings c.new.result c.new.ensures _

pub returns-then-count-eq0-clause-counts : goal.returns-then-count-eq0-clause-counts
returns-then-count-eq0-clause-counts g t c =
    λ p. empty_counted g.J.Job.of c.args.settings.now c.requires.settings c.new.result c.new.ensures c.args.from c.args.to c.requires.range (omega (arith, c.if-count-eq0.true))

pub returns-then-count-eq0-clause-still : goal.returns-then-count-eq0-clause-still
returns-then-count-eq0-clause-still g t c = still_same c.args.book.now

pub counts_of-requires-clause-there : goal.counts_of-requires-clause-there
counts_of-requires-clause-there g t c = omega (arith, c.if-count-eq1.true, c.requires.there)

pub returns-then-count-eq1-clause-total : goal.returns-then-count-eq1-clause-total
returns-then-count-eq1-clause-total g t c =
    let same : most_rows ≡ (c.args.to - c.args.from) * most_rows = omega (arith, c.if-count-eq1.true) in
    subst (λ (most : ℕ). IfOk c.counts_of.result (λ sum. total_of sum.pairs ≤ most)) same c.counts_of.ensures.total

pub returns-then-count-eq1-clause-counts : goal.returns-then-count-eq1-clause-counts
returns-then-count-eq1-clause-counts g t c =
    let end : c.args.from + 1 ≡ c.args.to = omega (arith, c.if-count-eq1.true) in
    subst (λ (n : ℕ). IfOk c.counts_of.result (λ sum. g.J.Job.of.premises → CountsBetween (job_of g.J.Job.of) c.args.from n sum)) end c.counts_of.ensures.counts

pub returns-in_err-sum-clause-cause : goal.returns-in_err-sum-clause-cause
returns-in_err-sum-clause-cause g t c =
    let is : c.from_residual.result ≡ Err c.in_err-sum.field-0.0 = search rules in
    rw is c.in_err-sum.ensures.cause

pub returns-in_err-more-clause-cause : goal.returns-in_err-more-clause-cause
returns-in_err-more-clause-cause g t c =
    let is : c.from_residual-in_err-more.result ≡ Err c.in_err-more.field-0.0 = search rules in
    rw is c.in_err-more.ensures.cause

pub returns-in_err-more-clause-still : goal.returns-in_err-more-clause-still
returns-in_err-more-clause-still g t c = still c.args.book.now c.counts_between.new.book c.counts_between-2.new.book c.counts_between.ensures.still c.counts_between-2.ensures.still

pub add_counts-requires-clause-total : goal.add_counts-requires-clause-total
add_counts-requires-clause-total g t c = omega (arith, c.in_ok-sum.ensures.total, c.in_ok-more.ensures.total, c.requires.range, c.requires.there, inputs_are g.J.Job.of, c.requires.asked.few)

pub returns-in_err-add_counts-clause-still : goal.returns-in_err-add_counts-clause-still
returns-in_err-add_counts-clause-still g t c = still c.args.book.now c.counts_between.new.book c.counts_between-2.new.book c.counts_between.ensures.still c.counts_between-2.ensures.still

pub returns-clause-total : goal.returns-clause-total
returns-clause-total g t c = omega (arith, c.in_ok-add_counts.ensures.total, c.in_ok-sum.ensures.total, c.in_ok-more.ensures.total, c.requires.range)

pub returns-clause-counts : goal.returns-clause-counts
returns-clause-counts g t c =
    λ p. c.in_ok-add_counts.ensures.counts c.args.from (c.args.from + (c.args.to - c.args.from) / 2) c.args.to (omega arith) (omega (arith, c.requires.range)) (c.in_ok-sum.ensures.counts p) (c.in_ok-more.ensures.counts p)

pub returns-clause-still : goal.returns-clause-still
returns-clause-still g t c = still c.args.book.now c.counts_between.new.book c.counts_between-2.new.book c.counts_between.ensures.still c.counts_between-2.ensures.still
