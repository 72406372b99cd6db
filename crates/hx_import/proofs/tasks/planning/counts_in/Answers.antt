use Rattle.std.proofs.Common.{◌∙◌, sym}
use Rattle.hx_book.specs.Books.{job_of}
use Rattle.hx_import.proofs.Counted.{map_undamaged, one_counted, order_of_map}
use Rattle.hx_import.proofs.tasks.planning.counts_in.Goals as goal

pub returns-then-order-highest-clause-cause : goal.returns-then-order-highest-clause-cause
returns-then-order-highest-clause-cause g c = λ t. rw c.damaged.ensures (λ p.
    c.if-order-highest.true (c.order.ensures.value ∙ order_of_map (job_of g.J.Job.of) c.args.bytes.now c.args.number c.in-Ok.hist (c.requires.file p) c.in-Ok.ensures.value ∙ sym c.requires.highest))

pub returns-in-Err-Damaged-clause-cause : goal.returns-in-Err-Damaged-clause-cause
returns-in-Err-Damaged-clause-cause g c = λ t. rw c.damaged-in-Err-Damaged.ensures (λ p.
    map_undamaged (job_of g.J.Job.of) c.args.bytes.now c.args.number c.in-Err-Damaged.place c.in-Err-Damaged.field-0 c.in-Err-Damaged.field-0-is (c.requires.file p) c.in-Err-Damaged.ensures.value)

pub returns-else-order-highest-clause-counts : goal.returns-else-order-highest-clause-counts
returns-else-order-highest-clause-counts g c = λ p. one_counted (job_of g.J.Job.of) c.args.number c.args.bytes.now c.in-Ok.hist (c.requires.file p) c.in-Ok.ensures.value
