use Rattle.std.proofs.Common.{◌∙◌, Err, ap, inl, refl, arith}
use Rattle.hx_journal.specs.Journal.{journal_file}
use Rattle.hx_book.proofs.Starting.{never_damaged, own_header, properties_still, trimmed_only, trimmed_opening}
use Rattle.hx_book.proofs.finding.open_kept.Goals as goal

pub returns-in-Ok-clause-opening : goal.returns-in-Ok-clause-opening
returns-in-Ok-clause-opening g c =
    trimmed_opening g.J.Job.of c.requires.few g.S.Store.disk c.args.store.now c.open.new.store c.requires.opening c.open.ensures.later c.requires.heading (rw c.requires.name at c.open.ensures.passes)

pub returns-in-Ok-clause-only : goal.returns-in-Ok-clause-only
returns-in-Ok-clause-only g c = λ t.
    let disk = c.requires.opening.disk t in
    trimmed_only g.J.Job.of g.S.Store.disk c.args.store.now c.open.new.store disk.later (c.requires.unchanged t) (rw c.requires.name at (c.open.ensures.passes disk.told))

pub returns-in-Ok-clause-file : goal.returns-in-Ok-clause-file
returns-in-Ok-clause-file g c = c.in-Ok.ensures.named ∙ ap journal_file c.requires.name

pub returns-in-Ok-clause-ready : goal.returns-in-Ok-clause-ready
returns-in-Ok-clause-ready g c = λ t. c.in-Ok.ensures.ready (c.requires.opening.disk t).told

pub returns-in-Ok-clause-header : goal.returns-in-Ok-clause-header
returns-in-Ok-clause-header g c = λ p.
    own_header g.J.Job.of g.S.Store.disk c.args.store.now c.requires.opening p c.in-Ok.journal (c.requires.heading p) (rw c.requires.name at (c.in-Ok.ensures.opened (c.requires.opening.disk (c.requires.opening.with_tells p)).told))

pub returns-in-Ok-clause-absent : goal.returns-in-Ok-clause-absent
returns-in-Ok-clause-absent g c = λ t none. absurd (cc none)

pub returns-in-Err-Absent-clause-opening : goal.returns-in-Err-Absent-clause-opening
returns-in-Err-Absent-clause-opening g c =
    trimmed_opening g.J.Job.of c.requires.few g.S.Store.disk c.args.store.now c.open.new.store c.requires.opening c.open.ensures.later c.requires.heading (rw c.requires.name at c.open.ensures.passes)

pub returns-in-Err-Absent-clause-only : goal.returns-in-Err-Absent-clause-only
returns-in-Err-Absent-clause-only g c = λ t.
    let disk = c.requires.opening.disk t in
    trimmed_only g.J.Job.of g.S.Store.disk c.args.store.now c.open.new.store disk.later (c.requires.unchanged t) (rw c.requires.name at (c.open.ensures.passes disk.told))

pub returns-in-Err-Absent-clause-absent : goal.returns-in-Err-Absent-clause-absent
returns-in-Err-Absent-clause-absent g c = λ t none. rw c.requires.name at (c.in-Err-Absent.ensures.absent (c.requires.opening.disk t).told (ap Err c.in-Err-Absent.field-0-is))

pub returns-in-Err-Damaged-clause-opening : goal.returns-in-Err-Damaged-clause-opening
returns-in-Err-Damaged-clause-opening g c =
    trimmed_opening g.J.Job.of c.requires.few g.S.Store.disk c.args.store.now c.open.new.store c.requires.opening c.open.ensures.later c.requires.heading (rw c.requires.name at c.open.ensures.passes)

pub returns-in-Err-Damaged-clause-only : goal.returns-in-Err-Damaged-clause-only
returns-in-Err-Damaged-clause-only g c = λ t.
    let disk = c.requires.opening.disk t in
    trimmed_only g.J.Job.of g.S.Store.disk c.args.store.now c.open.new.store disk.later (c.requires.unchanged t) (rw c.requires.name at (c.open.ensures.passes disk.told))

pub returns-in-Err-StoreFault-clause-opening : goal.returns-in-Err-StoreFault-clause-opening
returns-in-Err-StoreFault-clause-opening g c =
    trimmed_opening g.J.Job.of c.requires.few g.S.Store.disk c.args.store.now c.open.new.store c.requires.opening c.open.ensures.later c.requires.heading (rw c.requires.name at c.open.ensures.passes)

pub returns-in-Err-StoreFault-clause-only : goal.returns-in-Err-StoreFault-clause-only
returns-in-Err-StoreFault-clause-only g c = λ t.
    let disk = c.requires.opening.disk t in
    trimmed_only g.J.Job.of g.S.Store.disk c.args.store.now c.open.new.store disk.later (c.requires.unchanged t) (rw c.requires.name at (c.open.ensures.passes disk.told))

pub returns-in-Err-Memory-clause-opening : goal.returns-in-Err-Memory-clause-opening
returns-in-Err-Memory-clause-opening g c =
    trimmed_opening g.J.Job.of c.requires.few g.S.Store.disk c.args.store.now c.open.new.store c.requires.opening c.open.ensures.later c.requires.heading (rw c.requires.name at c.open.ensures.passes)

pub returns-in-Err-Memory-clause-only : goal.returns-in-Err-Memory-clause-only
returns-in-Err-Memory-clause-only g c = λ t.
    let disk = c.requires.opening.disk t in
    trimmed_only g.J.Job.of g.S.Store.disk c.args.store.now c.open.new.store disk.later (c.requires.unchanged t) (rw c.requires.name at (c.open.ensures.passes disk.told))

pub returns-in-Err-Damaged-clause-cause : goal.returns-in-Err-Damaged-clause-cause
returns-in-Err-Damaged-clause-cause g c = (
  (refl, inl refl),
  λ p.
      never_damaged g.J.Job.of g.S.Store.disk c.args.store.now c.requires.opening p c.in-Err-Damaged.place (c.requires.heading p)
      (rw (c.requires.name, c.in-Err-Damaged.field-0-is) at (c.in-Err-Damaged.ensures.refused (c.requires.opening.disk (c.requires.opening.with_tells p)).told)),
)

pub returns-in-Err-StoreFault-clause-cause : goal.returns-in-Err-StoreFault-clause-cause
returns-in-Err-StoreFault-clause-cause g c =
    let rose = c.in-Err-StoreFault.ensures.failed (ap Err c.in-Err-StoreFault.field-0-is) in
    let count = c.requires.opening.count in
    omega (arith, rose, count)

pub returns-in-Ok-clause-properties : goal.returns-in-Ok-clause-properties
returns-in-Ok-clause-properties g c = λ t. properties_still g.J.Job.of c.requires.few g.S.Store.disk c.args.store.now c.open.new.store (rw c.requires.name at (c.open.ensures.passes (c.requires.opening.disk t).told))

pub returns-in-Err-Absent-clause-properties : goal.returns-in-Err-Absent-clause-properties
returns-in-Err-Absent-clause-properties g c = λ t. properties_still g.J.Job.of c.requires.few g.S.Store.disk c.args.store.now c.open.new.store (rw c.requires.name at (c.open.ensures.passes (c.requires.opening.disk t).told))

pub returns-in-Err-Damaged-clause-properties : goal.returns-in-Err-Damaged-clause-properties
returns-in-Err-Damaged-clause-properties g c = λ t. properties_still g.J.Job.of c.requires.few g.S.Store.disk c.args.store.now c.open.new.store (rw c.requires.name at (c.open.ensures.passes (c.requires.opening.disk t).told))

pub returns-in-Err-StoreFault-clause-properties : goal.returns-in-Err-StoreFault-clause-properties
returns-in-Err-StoreFault-clause-properties g c = λ t. properties_still g.J.Job.of c.requires.few g.S.Store.disk c.args.store.now c.open.new.store (rw c.requires.name at (c.open.ensures.passes (c.requires.opening.disk t).told))

pub returns-in-Err-Memory-clause-properties : goal.returns-in-Err-Memory-clause-properties
returns-in-Err-Memory-clause-properties g c = λ t. properties_still g.J.Job.of c.requires.few g.S.Store.disk c.args.store.now c.open.new.store (rw c.requires.name at (c.open.ensures.passes (c.requires.opening.disk t).told))

pub returns-in-Ok-clause-opened : goal.returns-in-Ok-clause-opened
returns-in-Ok-clause-opened g c = λ t. rw c.requires.name at (c.in-Ok.ensures.opened (c.requires.opening.disk t).told)

pub returns-in-Ok-clause-missing : goal.returns-in-Ok-clause-missing
returns-in-Ok-clause-missing g c = λ t none. absurd (cc none)

pub returns-in-Err-Absent-clause-missing : goal.returns-in-Err-Absent-clause-missing
returns-in-Err-Absent-clause-missing g c = λ t none. rw (c.requires.name, c.in-Err-Absent.field-0-is) at (c.in-Err-Absent.ensures.refused (c.requires.opening.disk t).told)

pub returns-in-Err-Damaged-clause-late : goal.returns-in-Err-Damaged-clause-late
returns-in-Err-Damaged-clause-late g c = λ early. early

pub returns-in-Err-StoreFault-clause-late : goal.returns-in-Err-StoreFault-clause-late
returns-in-Err-StoreFault-clause-late g c = λ early. early

pub returns-in-Err-Memory-clause-late : goal.returns-in-Err-Memory-clause-late
returns-in-Err-Memory-clause-late g c = λ early. early

pub returns-in-Err-Damaged-clause-shows : goal.returns-in-Err-Damaged-clause-shows
returns-in-Err-Damaged-clause-shows g c = λ header t taken.
    let there = rw (c.requires.name, c.in-Err-Damaged.field-0-is) at (c.in-Err-Damaged.ensures.refused (c.requires.opening.disk t).told) in
    let none = taken.no_journal in
    let some = there.1 in
    cc (none, some)
