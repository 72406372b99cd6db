use Rattle.std.proofs.Common.{◌≡◌, ◌∙◌, None, Err, List, ⊎_elim, rules, subst}
use Rattle.hx_journal.specs.declared.record.Record.{Record}
use Rattle.hx_book.specs.Books.{IsScheduled, job_of}
use Rattle.hx_book.specs.Resumable.{done_of}
use Rattle.hx_book.proofs.Planned.{found_rest, read_plan, read_turn}
use Rattle.hx_book.proofs.Starting.{kept_records, not_barred, not_taken, other_cause, other_shows, same_opening, shows_late, walk_cause, walk_late}
use Rattle.hx_book.proofs.finding.find.Goals as goal

pub open_or_make-requires-clause-opening : goal.open_or_make-requires-clause-opening
open_or_make-requires-clause-opening g c =
    c.requires.opening

pub open_or_make-requires-clause-unchanged : goal.open_or_make-requires-clause-unchanged
open_or_make-requires-clause-unchanged g c =
    c.requires.unchanged

pub open_or_make-requires-clause-name : goal.open_or_make-requires-clause-name
open_or_make-requires-clause-name g c =
    c.requires.name

pub open_or_make-requires-clause-few : goal.open_or_make-requires-clause-few
open_or_make-requires-clause-few g c =
    c.requires.few

pub open_or_make-requires-clause-heading : goal.open_or_make-requires-clause-heading
open_or_make-requires-clause-heading g c =
    c.requires.heading

pub open_or_make-requires-clause-header : goal.open_or_make-requires-clause-header
open_or_make-requires-clause-header g c =
    c.requires.header

pub returns-in_err-journal-clause-opening : goal.returns-in_err-journal-clause-opening
returns-in_err-journal-clause-opening g c =
    c.open_or_make.ensures.opening

pub returns-in_err-journal-clause-found : goal.returns-in_err-journal-clause-found
returns-in_err-journal-clause-found g c =
    let is : c.from_residual.result ≡ Err c.in_err-journal.field-0.0 = search rules in
    rw is tt

pub returns-in_err-journal-clause-early : goal.returns-in_err-journal-clause-early
returns-in_err-journal-clause-early g c =
    λ t.
    let is : c.from_residual.result ≡ Err c.in_err-journal.field-0.0 = search rules in
    rw is (c.in_err-journal.ensures.early t)

pub returns-in_err-journal-clause-cause : goal.returns-in_err-journal-clause-cause
returns-in_err-journal-clause-cause g c =
    let is : c.from_residual.result ≡ Err c.in_err-journal.field-0.0 = search rules in
    rw is c.in_err-journal.ensures.cause

pub check_header-requires : goal.check_header-requires
check_header-requires g c =
    c.requires.heading

pub returns-in_err-check_header-clause-opening : goal.returns-in_err-check_header-clause-opening
returns-in_err-check_header-clause-opening g c =
    c.open_or_make.ensures.opening

pub returns-in_err-check_header-clause-found : goal.returns-in_err-check_header-clause-found
returns-in_err-check_header-clause-found g c =
    let is : c.from_residual-in_err-check_header.result ≡ Err c.in_err-check_header.field-0.0 = search rules in
    rw is tt

pub returns-in_err-check_header-clause-early : goal.returns-in_err-check_header-clause-early
returns-in_err-check_header-clause-early g c =
    λ t.
    let is : c.from_residual-in_err-check_header.result ≡ Err c.in_err-check_header.field-0.0 = search rules in
    rw is (λ early. ⊎_elim (λ same. absurd (c.in_err-check_header.ensures.other.1 same)) (λ only. only) (c.in_ok-journal.ensures.other t))

pub returns-in_err-check_header-clause-cause : goal.returns-in_err-check_header-clause-cause
returns-in_err-check_header-clause-cause g c =
    let is : c.from_residual-in_err-check_header.result ≡ Err c.in_err-check_header.field-0.0 = search rules in
    rw is (other_cause g.J.Job.of (g.S.Store.disk.faults c.open_or_make.new.store) c.in_ok-journal.journal.header c.args.header.now c.in_err-check_header.field-0.0 c.in_err-check_header.ensures.other.0 (λ p. c.in_err-check_header.ensures.other.1 (c.in_ok-journal.ensures.header p)))

pub walk-requires-clause-some : goal.walk-requires-clause-some
walk-requires-clause-some g c =
    c.requires.some

pub walk-requires-clause-inputs : goal.walk-requires-clause-inputs
walk-requires-clause-inputs g c =
    c.requires.inputs

pub returns-in_err-progress-clause-opening : goal.returns-in_err-progress-clause-opening
returns-in_err-progress-clause-opening g c =
    c.open_or_make.ensures.opening

pub returns-in_err-progress-clause-found : goal.returns-in_err-progress-clause-found
returns-in_err-progress-clause-found g c =
    let is : c.from_residual-in_err-progress.result ≡ Err c.in_err-progress.field-0.0 = search rules in
    rw is tt

pub returns-in_err-progress-clause-early : goal.returns-in_err-progress-clause-early
returns-in_err-progress-clause-early g c =
    λ t.
    let is : c.from_residual-in_err-progress.result ≡ Err c.in_err-progress.field-0.0 = search rules in
    rw is (λ early. absurd (walk_late c.in_err-progress.field-0.0 c.in_err-progress.ensures.cause early))

pub returns-in_err-progress-clause-cause : goal.returns-in_err-progress-clause-cause
returns-in_err-progress-clause-cause g c =
    let is : c.from_residual-in_err-progress.result ≡ Err c.in_err-progress.field-0.0 = search rules in
    rw is (walk_cause g.J.Job.of (g.S.Store.disk.faults c.open_or_make.new.store) c.in_err-progress.field-0.0 c.in_err-progress.ensures.cause (λ p. c.in_err-progress.ensures.never (read_turn g.J.Job.of g.S.Store.disk c.open_or_make.new.store c.open_or_make.ensures.opening p c.in_ok-journal.journal c.in_ok-journal.ensures.file (c.in_ok-journal.ensures.header p ∙ c.requires.header p) (c.in_ok-journal.ensures.ready (c.requires.opening.with_tells p)) c.records.result.now c.records.ensures.items)))

pub read_parts-requires-clause-count : goal.read_parts-requires-clause-count
read_parts-requires-clause-count g c =
    c.open_or_make.ensures.opening.count

pub read_parts-requires-clause-tells : goal.read_parts-requires-clause-tells
read_parts-requires-clause-tells g c =
    λ p. (c.in_ok-journal.ensures.ready (c.requires.opening.with_tells p)).told

pub read_parts-requires-clause-plan : goal.read_parts-requires-clause-plan
read_parts-requires-clause-plan g c =
    λ p three open_stage.
    read_plan g.J.Job.of g.S.Store.disk c.open_or_make.new.store c.open_or_make.ensures.opening p c.in_ok-journal.journal c.in_ok-journal.ensures.file (c.in_ok-journal.ensures.header p ∙ c.requires.header p) (c.in_ok-journal.ensures.ready (c.requires.opening.with_tells p))
    c.records.result.now c.records.ensures.items c.args.inputs c.in_ok-progress.progress.partitions c.in_ok-progress.progress.stage c.in_ok-progress.progress.from c.in_ok-progress.progress.flags.items c.requires.inputs
    c.in_ok-progress.ensures.scheduled c.in_ok-progress.ensures.planned c.args.name.now c.requires.name three open_stage

pub returns-in_err-parts-clause-opening : goal.returns-in_err-parts-clause-opening
returns-in_err-parts-clause-opening g c =
    same_opening g.J.Job.of c.requires.few g.S.Store.disk c.open_or_make.new.store c.read_parts.new.store c.open_or_make.ensures.opening c.read_parts.ensures.later c.read_parts.ensures.passes

pub returns-in_err-parts-clause-found : goal.returns-in_err-parts-clause-found
returns-in_err-parts-clause-found g c =
    let is : c.from_residual-in_err-parts.result ≡ Err c.in_err-parts.field-0.0 = search rules in
    rw is tt

pub returns-in_err-parts-clause-early : goal.returns-in_err-parts-clause-early
returns-in_err-parts-clause-early g c =
    λ t.
    let is : c.from_residual-in_err-parts.result ≡ Err c.in_err-parts.field-0.0 = search rules in
    rw is (λ early. absurd (c.in_err-parts.ensures.late early))

pub returns-in_err-parts-clause-cause : goal.returns-in_err-parts-clause-cause
returns-in_err-parts-clause-cause g c =
    let is : c.from_residual-in_err-parts.result ≡ Err c.in_err-parts.field-0.0 = search rules in
    rw is c.in_err-parts.ensures.cause

pub returns-clause-opening : goal.returns-clause-opening
returns-clause-opening g c =
    same_opening g.J.Job.of c.requires.few g.S.Store.disk c.open_or_make.new.store c.read_parts.new.store c.open_or_make.ensures.opening c.read_parts.ensures.later c.read_parts.ensures.passes

pub returns-clause-found : goal.returns-clause-found
returns-clause-found g c =
    record {
      scheduled = subst (λ (rs : List Record). IsScheduled c.args.inputs c.in_ok-progress.progress.partitions (done_of rs) c.in_ok-progress.progress.stage c.in_ok-progress.progress.from c.in_ok-progress.progress.flags.items None None) c.records.ensures.items c.in_ok-progress.ensures.scheduled;
      planned = λ p three. c.in_ok-progress.ensures.planned (read_turn g.J.Job.of g.S.Store.disk c.open_or_make.new.store c.open_or_make.ensures.opening p c.in_ok-journal.journal c.in_ok-journal.ensures.file (c.in_ok-journal.ensures.header p ∙ c.requires.header p) (c.in_ok-journal.ensures.ready (c.requires.opening.with_tells p)) c.records.result.now c.records.ensures.items) three;
      parts_are = c.in_ok-parts.ensures.parts;
      not_many = c.in_ok-progress.ensures.few;
      file_is = c.in_ok-journal.ensures.file;
      header_is = λ p. c.in_ok-journal.ensures.header p ∙ c.requires.header p;
      rest = found_rest g.J.Job.of g.S.Store.disk c.open_or_make.new.store c.read_parts.new.store c.in_ok-journal.journal c.in_ok-journal.ensures.ready c.read_parts.ensures.passes;
    }

pub returns-in_err-journal-clause-shows : goal.returns-in_err-journal-clause-shows
returns-in_err-journal-clause-shows g c =
    λ t.
    let is : c.from_residual.result ≡ Err c.in_err-journal.field-0.0 = search rules in
    rw is (c.in_err-journal.ensures.shows t)

pub returns-in_err-journal-clause-barred : goal.returns-in_err-journal-clause-barred
returns-in_err-journal-clause-barred g c =
    λ t barred.
    let is : c.from_residual.result ≡ Err c.in_err-journal.field-0.0 = search rules in
    rw is tt

pub returns-in_err-check_header-clause-shows : goal.returns-in_err-check_header-clause-shows
returns-in_err-check_header-clause-shows g c =
    λ t.
    let is : c.from_residual-in_err-check_header.result ≡ Err c.in_err-check_header.field-0.0 = search rules in
    rw is (other_shows (job_of g.J.Job.of) c.args.header.now (g.S.Store.disk.reads c.args.store.now) c.in_ok-journal.journal c.in_err-check_header.field-0.0 (c.in_ok-journal.ensures.origin t) c.in_err-check_header.ensures.other.0 c.in_err-check_header.ensures.other.1)

pub returns-in_err-check_header-clause-barred : goal.returns-in_err-check_header-clause-barred
returns-in_err-check_header-clause-barred g c =
    λ t barred.
    let is : c.from_residual-in_err-check_header.result ≡ Err c.in_err-check_header.field-0.0 = search rules in
    rw is tt

pub returns-in_err-progress-clause-shows : goal.returns-in_err-progress-clause-shows
returns-in_err-progress-clause-shows g c =
    λ t.
    let is : c.from_residual-in_err-progress.result ≡ Err c.in_err-progress.field-0.0 = search rules in
    rw is (shows_late g.J.Job.of.settings.name c.args.header.now (g.S.Store.disk.reads c.args.store.now) c.in_err-progress.field-0.0 (walk_late c.in_err-progress.field-0.0 c.in_err-progress.ensures.cause) (not_taken (job_of g.J.Job.of) c.args.header.now (g.S.Store.disk.reads c.args.store.now) c.in_ok-journal.journal (c.in_ok-journal.ensures.origin t)))

pub returns-in_err-progress-clause-barred : goal.returns-in_err-progress-clause-barred
returns-in_err-progress-clause-barred g c =
    λ t barred.
    let is : c.from_residual-in_err-progress.result ≡ Err c.in_err-progress.field-0.0 = search rules in
    rw is tt

pub returns-in_err-parts-clause-shows : goal.returns-in_err-parts-clause-shows
returns-in_err-parts-clause-shows g c =
    λ t.
    let is : c.from_residual-in_err-parts.result ≡ Err c.in_err-parts.field-0.0 = search rules in
    rw is (shows_late g.J.Job.of.settings.name c.args.header.now (g.S.Store.disk.reads c.args.store.now) c.in_err-parts.field-0.0 c.in_err-parts.ensures.late (not_taken (job_of g.J.Job.of) c.args.header.now (g.S.Store.disk.reads c.args.store.now) c.in_ok-journal.journal (c.in_ok-journal.ensures.origin t)))

pub returns-in_err-parts-clause-barred : goal.returns-in_err-parts-clause-barred
returns-in_err-parts-clause-barred g c =
    λ t barred.
    let is : c.from_residual-in_err-parts.result ≡ Err c.in_err-parts.field-0.0 = search rules in
    rw is tt

pub returns-clause-barred : goal.returns-clause-barred
returns-clause-barred g c =
    λ t barred. not_barred (job_of g.J.Job.of) c.args.header.now (g.S.Store.disk.reads c.args.store.now) c.in_ok-journal.journal (c.in_ok-journal.ensures.origin t) c.in_ok-check_header.ensures.same barred

pub returns-in_err-journal-clause-kept : goal.returns-in_err-journal-clause-kept
returns-in_err-journal-clause-kept g c =
    λ t.
    let is : c.from_residual.result ≡ Err c.in_err-journal.field-0.0 = search rules in
    rw is tt

pub returns-in_err-check_header-clause-kept : goal.returns-in_err-check_header-clause-kept
returns-in_err-check_header-clause-kept g c =
    λ t.
    let is : c.from_residual-in_err-check_header.result ≡ Err c.in_err-check_header.field-0.0 = search rules in
    rw is tt

pub returns-in_err-progress-clause-kept : goal.returns-in_err-progress-clause-kept
returns-in_err-progress-clause-kept g c =
    λ t.
    let is : c.from_residual-in_err-progress.result ≡ Err c.in_err-progress.field-0.0 = search rules in
    rw is tt

pub returns-in_err-parts-clause-kept : goal.returns-in_err-parts-clause-kept
returns-in_err-parts-clause-kept g c =
    λ t.
    let is : c.from_residual-in_err-parts.result ≡ Err c.in_err-parts.field-0.0 = search rules in
    rw is tt

pub returns-clause-kept : goal.returns-clause-kept
returns-clause-kept g c =
    λ t. kept_records (job_of g.J.Job.of) c.args.header.now (g.S.Store.disk.reads c.args.store.now) c.in_ok-journal.journal (c.in_ok-journal.ensures.origin t)
