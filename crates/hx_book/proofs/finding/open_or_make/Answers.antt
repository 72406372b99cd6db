use Rattle.std.proofs.Common.{IsSome, ◌∙◌, inl, inr, sym, subst}
use Rattle.hx_journal.specs.Headers.{IsHeader}
use Rattle.hx_journal.specs.Journal.{journal_file}
use Rattle.hx_book.specs.Books.{job_of}
use Rattle.hx_book.specs.Resumable.{IsFresh}
use Rattle.hx_book.specs.Tasks.{properties_path}
use Rattle.hx_book.proofs.Starting.{absent_still, cause_of_store, fresh_untaken, if_err_more, if_ok_more, none_there, same_only, same_opening, shows_late, store_not_early, store_shows, taken_never}
use Rattle.hx_book.proofs.finding.open_or_make.Goals as goal

pub open_kept-requires-clause-opening : goal.open_kept-requires-clause-opening
open_kept-requires-clause-opening g c = c.requires.opening

pub open_kept-requires-clause-unchanged : goal.open_kept-requires-clause-unchanged
open_kept-requires-clause-unchanged g c = c.requires.unchanged

pub open_kept-requires-clause-name : goal.open_kept-requires-clause-name
open_kept-requires-clause-name g c = c.requires.name

pub open_kept-requires-clause-few : goal.open_kept-requires-clause-few
open_kept-requires-clause-few g c = c.requires.few

pub open_kept-requires-clause-heading : goal.open_kept-requires-clause-heading
open_kept-requires-clause-heading g c = λ p. subst IsHeader (c.requires.header p) c.requires.heading

pub returns-in-Ok-Some-clause-opening : goal.returns-in-Ok-Some-clause-opening
returns-in-Ok-Some-clause-opening g c = c.open_kept.ensures.opening

pub returns-in-Ok-Some-clause-file : goal.returns-in-Ok-Some-clause-file
returns-in-Ok-Some-clause-file g c = rw c.in-Ok-Some.field-0-is at c.in-Ok-Some.ensures.file

pub returns-in-Ok-Some-clause-ready : goal.returns-in-Ok-Some-clause-ready
returns-in-Ok-Some-clause-ready g c = λ t. rw c.in-Ok-Some.field-0-is at (c.in-Ok-Some.ensures.ready t)

pub returns-in-Ok-Some-clause-header : goal.returns-in-Ok-Some-clause-header
returns-in-Ok-Some-clause-header g c = λ p. let own = rw c.in-Ok-Some.field-0-is at (c.in-Ok-Some.ensures.header p) in own ∙ sym (c.requires.header p)

pub returns-in-Ok-Some-clause-other : goal.returns-in-Ok-Some-clause-other
returns-in-Ok-Some-clause-other g c = λ t. inr (c.open_kept.ensures.only t)

pub returns-in-Err-clause-opening : goal.returns-in-Err-clause-opening
returns-in-Err-clause-opening g c = c.open_kept.ensures.opening

pub returns-in-Err-clause-early : goal.returns-in-Err-clause-early
returns-in-Err-clause-early g c = λ t early. c.open_kept.ensures.only t

pub returns-in-Err-clause-cause : goal.returns-in-Err-clause-cause
returns-in-Err-clause-cause g c = c.in-Err.ensures.cause

pub make-requires-clause-opening : goal.make-requires-clause-opening
make-requires-clause-opening g c = same_opening g.J.Job.of c.requires.few g.S.Store.disk c.open_kept.new.store c.has_properties.new.store c.open_kept.ensures.opening c.has_properties.ensures.later c.has_properties.ensures.passes

pub make-requires-clause-absent : goal.make-requires-clause-absent
make-requires-clause-absent g c = λ t. absent_still g.S.Store.disk c.open_kept.new.store c.has_properties.new.store (journal_file g.J.Job.of.settings.name) (c.has_properties.ensures.passes (c.open_kept.ensures.opening.disk t).told) (c.in-Ok-None.ensures.absent t c.in-Ok-None.field-0-is)

pub make-requires-clause-name : goal.make-requires-clause-name
make-requires-clause-name g c = c.requires.name

pub make-requires-clause-few : goal.make-requires-clause-few
make-requires-clause-few g c = c.requires.few

pub make-requires-clause-heading : goal.make-requires-clause-heading
make-requires-clause-heading g c = c.requires.heading

pub make-requires-clause-header : goal.make-requires-clause-header
make-requires-clause-header g c = c.requires.header

pub returns-in-Ok-true-clause-opening : goal.returns-in-Ok-true-clause-opening
returns-in-Ok-true-clause-opening g c = same_opening g.J.Job.of c.requires.few g.S.Store.disk c.open_kept.new.store c.has_properties.new.store c.open_kept.ensures.opening c.has_properties.ensures.later c.has_properties.ensures.passes

pub returns-in-Ok-true-clause-early : goal.returns-in-Ok-true-clause-early
returns-in-Ok-true-clause-early g c = λ t early. same_only g.J.Job.of g.S.Store.disk c.open_kept.new.store c.has_properties.new.store (c.open_kept.ensures.opening.disk t).later (c.open_kept.ensures.only t) (c.has_properties.ensures.passes (c.open_kept.ensures.opening.disk t).told)

pub returns-in-Ok-true-clause-cause : goal.returns-in-Ok-true-clause-cause
returns-in-Ok-true-clause-cause g c = λ p.
    let t = c.requires.opening.with_tells p in
    taken_never g.J.Job.of g.S.Store.disk c.open_kept.new.store c.open_kept.ensures.opening p (c.in-Ok-None.ensures.absent t c.in-Ok-None.field-0-is) (rw c.requires.name at (sym c.in-Ok-true.field-0-test ∙ c.in-Ok-true.ensures.there (c.open_kept.ensures.opening.disk t).told))

pub returns-in-Ok-false-clause-opening : goal.returns-in-Ok-false-clause-opening
returns-in-Ok-false-clause-opening g c = c.make.ensures.opening

pub returns-in-Ok-false-clause-file : goal.returns-in-Ok-false-clause-file
returns-in-Ok-false-clause-file g c = c.make.ensures.file

pub returns-in-Ok-false-clause-ready : goal.returns-in-Ok-false-clause-ready
returns-in-Ok-false-clause-ready g c = c.make.ensures.ready

pub returns-in-Ok-false-clause-header : goal.returns-in-Ok-false-clause-header
returns-in-Ok-false-clause-header g c = λ p. if_ok_more c.make.result _ _ (λ journal new. new.header_is) (c.make.ensures.header (c.requires.opening.with_tells p))

pub returns-in-Ok-false-clause-other : goal.returns-in-Ok-false-clause-other
returns-in-Ok-false-clause-other g c = λ t. if_ok_more c.make.result _ _ (λ journal new. inl new.header_is) (c.make.ensures.header t)

pub returns-in-Ok-false-clause-early : goal.returns-in-Ok-false-clause-early
returns-in-Ok-false-clause-early g c = λ t. if_err_more c.make.result _ _ (λ r late early. absurd (late early)) c.make.ensures.late

pub returns-in-Ok-false-clause-cause : goal.returns-in-Ok-false-clause-cause
returns-in-Ok-false-clause-cause g c = c.make.ensures.cause

pub returns-in-Err-has_properties-clause-opening : goal.returns-in-Err-has_properties-clause-opening
returns-in-Err-has_properties-clause-opening g c = same_opening g.J.Job.of c.requires.few g.S.Store.disk c.open_kept.new.store c.has_properties.new.store c.open_kept.ensures.opening c.has_properties.ensures.later c.has_properties.ensures.passes

pub returns-in-Err-has_properties-clause-early : goal.returns-in-Err-has_properties-clause-early
returns-in-Err-has_properties-clause-early g c = λ t early. absurd (store_not_early (g.S.Store.disk.faults c.open_kept.new.store) (g.S.Store.disk.faults c.has_properties.new.store) c.in-Err-has_properties.refusal c.in-Err-has_properties.ensures.cause early)

pub returns-in-Err-has_properties-clause-cause : goal.returns-in-Err-has_properties-clause-cause
returns-in-Err-has_properties-clause-cause g c = cause_of_store g.J.Job.of (g.S.Store.disk.faults c.open_kept.new.store) (g.S.Store.disk.faults c.has_properties.new.store) c.in-Err-has_properties.refusal c.open_kept.ensures.opening.count c.in-Err-has_properties.ensures.cause

pub returns-in-Ok-Some-clause-origin : goal.returns-in-Ok-Some-clause-origin
returns-in-Ok-Some-clause-origin g c = λ t. inl (rw c.in-Ok-Some.field-0-is at (c.in-Ok-Some.ensures.opened t))

pub returns-in-Err-clause-shows : goal.returns-in-Err-clause-shows
returns-in-Err-clause-shows g c = λ t. c.in-Err.ensures.shows c.args.header.now t

pub returns-in-Ok-true-clause-shows : goal.returns-in-Ok-true-clause-shows
returns-in-Ok-true-clause-shows g c = λ t.
    let there = rw c.requires.name at (sym c.in-Ok-true.field-0-test ∙ c.in-Ok-true.ensures.there (c.open_kept.ensures.opening.disk t).told) in
    record { no_journal = c.in-Ok-None.ensures.missing t c.in-Ok-None.field-0-is; properties = subst IsSome (c.open_kept.ensures.properties t) (sym there) }

pub returns-in-Ok-false-clause-origin : goal.returns-in-Ok-false-clause-origin
returns-in-Ok-false-clause-origin g c = λ t.
    let there = rw c.requires.name at (sym c.in-Ok-false.field-0-test ∙ c.in-Ok-false.ensures.there (c.open_kept.ensures.opening.disk t).told) in
    let fresh : IsFresh (job_of g.J.Job.of) (g.S.Store.disk.reads c.args.store.now) = record { no_journal = c.in-Ok-None.ensures.missing t c.in-Ok-None.field-0-is; no_properties = sym (c.open_kept.ensures.properties t) ∙ none_there (g.S.Store.disk.reads c.open_kept.new.store (properties_path g.J.Job.of.settings.name)) there } in
    if_ok_more c.make.result _ _ (λ journal same. inr (fresh, same)) (c.make.ensures.header t)

pub returns-in-Ok-false-clause-shows : goal.returns-in-Ok-false-clause-shows
returns-in-Ok-false-clause-shows g c = λ t.
    let there = rw c.requires.name at (sym c.in-Ok-false.field-0-test ∙ c.in-Ok-false.ensures.there (c.open_kept.ensures.opening.disk t).told) in
    let fresh : IsFresh (job_of g.J.Job.of) (g.S.Store.disk.reads c.args.store.now) = record { no_journal = c.in-Ok-None.ensures.missing t c.in-Ok-None.field-0-is; no_properties = sym (c.open_kept.ensures.properties t) ∙ none_there (g.S.Store.disk.reads c.open_kept.new.store (properties_path g.J.Job.of.settings.name)) there } in
    if_err_more c.make.result _ _ (λ r late. shows_late g.J.Job.of.settings.name c.args.header.now (g.S.Store.disk.reads c.args.store.now) r late (fresh_untaken (job_of g.J.Job.of) (g.S.Store.disk.reads c.args.store.now) fresh)) c.make.ensures.late

pub returns-in-Err-has_properties-clause-shows : goal.returns-in-Err-has_properties-clause-shows
returns-in-Err-has_properties-clause-shows g c = λ t. store_shows g.J.Job.of.settings.name c.args.header.now (g.S.Store.disk.reads c.args.store.now) (g.S.Store.disk.faults c.open_kept.new.store) (g.S.Store.disk.faults c.has_properties.new.store) c.in-Err-has_properties.refusal c.in-Err-has_properties.ensures.cause
