use Rattle.std.proofs.Common.{◌∙◌, Err, ap, sym, subst, arith}
use Rattle.hx_journal.specs.Headers.{IsHeader}
use Rattle.hx_journal.specs.Journal.{journal_file}
use Rattle.hx_book.specs.Books.{IsEarly, IsFoundCause}
use Rattle.hx_book.proofs.Starting.{created_header, created_opening, created_refused, journal_cause, journal_late, store_cause, store_late, trimmed_opening}
use Rattle.hx_book.proofs.finding.make.Goals as goal

pub returns-in-Err-clause-opening : goal.returns-in-Err-clause-opening
returns-in-Err-clause-opening g c = created_opening g.J.Job.of c.requires.few g.S.Store.disk c.args.store.now c.create.new.store c.requires.opening c.create.ensures.cause.later c.args.header.now c.requires.header (λ p. c.requires.absent (c.requires.opening.with_tells p)) (rw c.requires.name at c.create.ensures.passes)

pub returns-in-Err-clause-late : goal.returns-in-Err-clause-late
returns-in-Err-clause-late g c = λ early. store_late c.in-Err.error (subst IsEarly c.of_store.ensures early)

pub returns-in-Err-clause-cause : goal.returns-in-Err-clause-cause
returns-in-Err-clause-cause g c =
    subst (IsFoundCause g.J.Job.of (g.S.Store.disk.faults c.create.new.store)) (sym c.of_store.ensures)
    (store_cause g.J.Job.of (g.S.Store.disk.faults c.args.store.now) (g.S.Store.disk.faults c.create.new.store) c.in-Err.error c.requires.opening.count (λ e. c.in-Err.ensures.cause.failed (ap Err e)))

pub returns-in-Ok-open-clause-opening : goal.returns-in-Ok-open-clause-opening
returns-in-Ok-open-clause-opening g c =
    trimmed_opening g.J.Job.of c.requires.few g.S.Store.disk c.create.new.store c.open.new.store (created_opening g.J.Job.of c.requires.few g.S.Store.disk c.args.store.now c.create.new.store c.requires.opening c.create.ensures.cause.later c.args.header.now c.requires.header (λ p. c.requires.absent (c.requires.opening.with_tells p)) (rw c.requires.name at c.create.ensures.passes))
    c.open.ensures.later (λ p. subst IsHeader (c.requires.header p) c.requires.heading) (rw c.requires.name at c.open.ensures.passes)

pub returns-in-Err-open-clause-opening : goal.returns-in-Err-open-clause-opening
returns-in-Err-open-clause-opening g c =
    trimmed_opening g.J.Job.of c.requires.few g.S.Store.disk c.create.new.store c.open.new.store (created_opening g.J.Job.of c.requires.few g.S.Store.disk c.args.store.now c.create.new.store c.requires.opening c.create.ensures.cause.later c.args.header.now c.requires.header (λ p. c.requires.absent (c.requires.opening.with_tells p)) (rw c.requires.name at c.create.ensures.passes))
    c.open.ensures.later (λ p. subst IsHeader (c.requires.header p) c.requires.heading) (rw c.requires.name at c.open.ensures.passes)

pub returns-in-Ok-open-clause-file : goal.returns-in-Ok-open-clause-file
returns-in-Ok-open-clause-file g c = c.in-Ok-open.ensures.named ∙ ap journal_file c.requires.name

pub returns-in-Ok-open-clause-ready : goal.returns-in-Ok-open-clause-ready
returns-in-Ok-open-clause-ready g c = λ t. c.in-Ok-open.ensures.ready (c.create.ensures.passes (c.requires.opening.disk t).told).told

pub returns-in-Ok-open-clause-header : goal.returns-in-Ok-open-clause-header
returns-in-Ok-open-clause-header g c = λ t.
    created_header g.S.Store.disk c.create.new.store (journal_file g.J.Job.of.settings.name) c.args.header.now (c.create.ensures.passes (c.requires.opening.disk t).told).told c.requires.heading (rw c.requires.name at (c.in-Ok.ensures.rest (c.requires.opening.disk t).told))
    c.in-Ok-open.journal (rw c.requires.name at (c.in-Ok-open.ensures.opened (c.create.ensures.passes (c.requires.opening.disk t).told).told))

pub returns-in-Err-open-clause-late : goal.returns-in-Err-open-clause-late
returns-in-Err-open-clause-late g c = λ early. journal_late c.in-Err-open.refusal (subst IsEarly c.of_journal.ensures early)

pub returns-in-Err-open-clause-cause : goal.returns-in-Err-open-clause-cause
returns-in-Err-open-clause-cause g c =
    subst (IsFoundCause g.J.Job.of (g.S.Store.disk.faults c.open.new.store)) (sym c.of_journal.ensures)
    (journal_cause g.J.Job.of (g.S.Store.disk.faults c.open.new.store) c.in-Err-open.refusal
    (λ p. let t = c.requires.opening.with_tells p in
    created_refused g.S.Store.disk c.create.new.store (journal_file g.J.Job.of.settings.name) c.args.header.now (c.create.ensures.passes (c.requires.opening.disk t).told).told c.requires.heading (rw c.requires.name at (c.in-Ok.ensures.rest (c.requires.opening.disk t).told))
    c.in-Err-open.refusal (rw c.requires.name at (c.in-Err-open.ensures.refused (c.create.ensures.passes (c.requires.opening.disk t).told).told)))
    (λ e. let rose = c.in-Err-open.ensures.failed (ap Err e) in let count = c.requires.opening.count in let later = c.create.ensures.cause.later in omega (arith, rose, count, later)))
