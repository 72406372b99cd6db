use Rattle.std.proofs.Common.{◌≡◌, ◌∙◌, Err, ap, rules, sym, subst, arith, length, ℕ, List}
use Rattle.hx_base.specs.declared.refusal.Refusal.TheVariants.{Memory}
use Rattle.hx_base.specs.declared.settings.Settings.{Settings}
use Rattle.hx_journal.specs.Headers.{IsHeader}
use Rattle.hx_inputs.specs.Inputs.{too_long}
use Rattle.hx_book.specs.Books.{IsBarred, ShowsWhy, job_of}
use Rattle.hx_book.specs.Resumable.{header_bytes}
use Rattle.hx_book.proofs.Starting.{opened_first, unchanged_first, unchanged_only}
use Rattle.hx_book.proofs.Told.{found_back, found_not_long, header_named, header_told, lengths_back, lengths_shows, long_shown, named_count, same_refl}
use Rattle.hx_book.proofs.opening.begin.Goals as goal

pub new-requires : goal.new-requires
new-requires g c =
    let n = named_count g.J.Job.of g.Src.Source.source g.S.Store.disk c.args.settings.now c.args.inputs.now.items c.args.store.now c.requires.named in
    omega (arith, c.len.ensures, c.args.inputs.now.ok, n)

pub new-requires-2 : goal.new-requires-2
new-requires-2 g c =
    let n = named_count g.J.Job.of g.Src.Source.source g.S.Store.disk c.args.settings.now c.args.inputs.now.items c.args.store.now c.requires.named in
    omega (arith, c.len-2.ensures, c.args.inputs.now.ok, n)

pub returns-in_err-back-clause-same : goal.returns-in_err-back-clause-same
returns-in_err-back-clause-same g c =
    same_refl g.Src.Source.source c.args.inputs.now.items

pub returns-in_err-back-clause-opening : goal.returns-in_err-back-clause-opening
returns-in_err-back-clause-opening g c =
    opened_first g.J.Job.of g.Src.Source.source g.S.Store.disk c.args.settings.now c.args.inputs.now.items c.args.store.now c.requires.named

pub returns-in_err-back-clause-found : goal.returns-in_err-back-clause-found
returns-in_err-back-clause-found g c =
    let is : c.from_residual.result ≡ Err Memory = search rules in
    rw is tt

pub returns-in_err-back-clause-name : goal.returns-in_err-back-clause-name
returns-in_err-back-clause-name g c =
    let is : c.from_residual.result ≡ Err Memory = search rules in
    rw is tt

pub returns-in_err-back-clause-heading : goal.returns-in_err-back-clause-heading
returns-in_err-back-clause-heading g c =
    let is : c.from_residual.result ≡ Err Memory = search rules in
    rw is tt

pub returns-in_err-back-clause-short : goal.returns-in_err-back-clause-short
returns-in_err-back-clause-short g c =
    λ bytes tell.
    let is : c.from_residual.result ≡ Err Memory = search rules in
    rw is tt

pub returns-in_err-back-clause-long : goal.returns-in_err-back-clause-long
returns-in_err-back-clause-long g c =
    λ bytes what found limit tell.
    let is : c.from_residual.result ≡ Err Memory = search rules in
    rw is (λ e. absurd (cc e))

pub returns-in_err-back-clause-early : goal.returns-in_err-back-clause-early
returns-in_err-back-clause-early g c =
    λ t.
    let is : c.from_residual.result ≡ Err Memory = search rules in
    rw is (λ early. absurd early)

pub returns-in_err-back-clause-cause : goal.returns-in_err-back-clause-cause
returns-in_err-back-clause-cause g c =
    let is : c.from_residual.result ≡ Err Memory = search rules in
    rw is tt

pub returns-in_err-homes-clause-same : goal.returns-in_err-homes-clause-same
returns-in_err-homes-clause-same g c =
    same_refl g.Src.Source.source c.args.inputs.now.items

pub returns-in_err-homes-clause-opening : goal.returns-in_err-homes-clause-opening
returns-in_err-homes-clause-opening g c =
    opened_first g.J.Job.of g.Src.Source.source g.S.Store.disk c.args.settings.now c.args.inputs.now.items c.args.store.now c.requires.named

pub returns-in_err-homes-clause-found : goal.returns-in_err-homes-clause-found
returns-in_err-homes-clause-found g c =
    let is : c.from_residual-in_err-homes.result ≡ Err Memory = search rules in
    rw is tt

pub returns-in_err-homes-clause-name : goal.returns-in_err-homes-clause-name
returns-in_err-homes-clause-name g c =
    let is : c.from_residual-in_err-homes.result ≡ Err Memory = search rules in
    rw is tt

pub returns-in_err-homes-clause-heading : goal.returns-in_err-homes-clause-heading
returns-in_err-homes-clause-heading g c =
    let is : c.from_residual-in_err-homes.result ≡ Err Memory = search rules in
    rw is tt

pub returns-in_err-homes-clause-short : goal.returns-in_err-homes-clause-short
returns-in_err-homes-clause-short g c =
    λ bytes tell.
    let is : c.from_residual-in_err-homes.result ≡ Err Memory = search rules in
    rw is tt

pub returns-in_err-homes-clause-long : goal.returns-in_err-homes-clause-long
returns-in_err-homes-clause-long g c =
    λ bytes what found limit tell.
    let is : c.from_residual-in_err-homes.result ≡ Err Memory = search rules in
    rw is (λ e. absurd (cc e))

pub returns-in_err-homes-clause-early : goal.returns-in_err-homes-clause-early
returns-in_err-homes-clause-early g c =
    λ t.
    let is : c.from_residual-in_err-homes.result ≡ Err Memory = search rules in
    rw is (λ early. absurd early)

pub returns-in_err-homes-clause-cause : goal.returns-in_err-homes-clause-cause
returns-in_err-homes-clause-cause g c =
    let is : c.from_residual-in_err-homes.result ≡ Err Memory = search rules in
    rw is tt

pub returns-in_err-header-clause-same : goal.returns-in_err-header-clause-same
returns-in_err-header-clause-same g c =
    c.header_bytes.ensures.same

pub returns-in_err-header-clause-opening : goal.returns-in_err-header-clause-opening
returns-in_err-header-clause-opening g c =
    opened_first g.J.Job.of g.Src.Source.source g.S.Store.disk c.args.settings.now c.args.inputs.now.items c.args.store.now c.requires.named

pub returns-in_err-header-clause-found : goal.returns-in_err-header-clause-found
returns-in_err-header-clause-found g c =
    let is : c.from_residual-in_err-header.result ≡ Err c.in_err-header.field-0.0 = search rules in
    rw is tt

pub returns-in_err-header-clause-name : goal.returns-in_err-header-clause-name
returns-in_err-header-clause-name g c =
    let is : c.from_residual-in_err-header.result ≡ Err c.in_err-header.field-0.0 = search rules in
    rw is tt

pub returns-in_err-header-clause-heading : goal.returns-in_err-header-clause-heading
returns-in_err-header-clause-heading g c =
    let is : c.from_residual-in_err-header.result ≡ Err c.in_err-header.field-0.0 = search rules in
    rw is tt

pub returns-in_err-header-clause-short : goal.returns-in_err-header-clause-short
returns-in_err-header-clause-short g c =
    λ bytes tell.
    let is : c.from_residual-in_err-header.result ≡ Err c.in_err-header.field-0.0 = search rules in
    rw is tt

pub returns-in_err-header-clause-long : goal.returns-in_err-header-clause-long
returns-in_err-header-clause-long g c =
    λ bytes what found limit tell.
    let is : c.from_residual-in_err-header.result ≡ Err c.in_err-header.field-0.0 = search rules in
    rw is (long_shown c.in_err-header.field-0.0 (too_long bytes) what found limit (c.in_err-header.ensures.first bytes tell))

pub returns-in_err-header-clause-early : goal.returns-in_err-header-clause-early
returns-in_err-header-clause-early g c =
    λ t.
    let is : c.from_residual-in_err-header.result ≡ Err c.in_err-header.field-0.0 = search rules in
    rw is (λ early. unchanged_only g.J.Job.of g.S.Store.disk c.args.store.now (unchanged_first g.J.Job.of g.Src.Source.source g.S.Store.disk c.args.settings.now c.args.inputs.now.items c.args.store.now c.requires.named))

pub returns-in_err-header-clause-cause : goal.returns-in_err-header-clause-cause
returns-in_err-header-clause-cause g c =
    let is : c.from_residual-in_err-header.result ≡ Err c.in_err-header.field-0.0 = search rules in
    rw is (lengths_back g.J.Job.of g.Src.Source.source g.S.Store.disk c.args.settings.now c.args.inputs.now.items c.args.store.now c.requires.named c.requires.words c.header_bytes.new.inputs.items c.header_bytes.ensures.same (g.S.Store.disk.faults c.args.store.now) c.in_err-header.field-0.0 c.in_err-header.ensures.cause)

pub find-requires-clause-opening : goal.find-requires-clause-opening
find-requires-clause-opening g c =
    opened_first g.J.Job.of g.Src.Source.source g.S.Store.disk c.args.settings.now c.args.inputs.now.items c.args.store.now c.requires.named

pub find-requires-clause-unchanged : goal.find-requires-clause-unchanged
find-requires-clause-unchanged g c =
    λ t. unchanged_first g.J.Job.of g.Src.Source.source g.S.Store.disk c.args.settings.now c.args.inputs.now.items c.args.store.now c.requires.named

pub find-requires-clause-name : goal.find-requires-clause-name
find-requires-clause-name g c =
    ap (λ (x : Settings). x.name) (sym c.requires.named.settings_are)

pub find-requires-clause-few : goal.find-requires-clause-few
find-requires-clause-few g c =
    let n = named_count g.J.Job.of g.Src.Source.source g.S.Store.disk c.args.settings.now c.args.inputs.now.items c.args.store.now c.requires.named in
    let few = c.requires.few in omega (arith, few, n)

pub find-requires-clause-some : goal.find-requires-clause-some
find-requires-clause-some g c =
    let same = c.header_bytes.ensures.same.count in
    let some = c.requires.some in omega (arith, c.len-3.ensures, c.header_bytes.new.inputs.ok, same, some)

pub find-requires-clause-inputs : goal.find-requires-clause-inputs
find-requires-clause-inputs g c =
    let n = named_count g.J.Job.of g.Src.Source.source g.S.Store.disk c.args.settings.now c.args.inputs.now.items c.args.store.now c.requires.named in
    let same = c.header_bytes.ensures.same.count in
    omega (arith, c.len-3.ensures, c.header_bytes.new.inputs.ok, same, n)

pub find-requires-clause-heading : goal.find-requires-clause-heading
find-requires-clause-heading g c =
    rw c.deref.ensures.value c.in_ok-header.ensures.heading

pub find-requires-clause-header : goal.find-requires-clause-header
find-requires-clause-header g c =
    λ p. c.deref.ensures.value ∙ header_named g.J.Job.of g.Src.Source.source g.S.Store.disk c.args.settings.now c.args.inputs.now.items c.args.store.now c.requires.named p c.in_ok-header.header.items c.in_ok-header.ensures.header

pub returns-in_err-found-clause-same : goal.returns-in_err-found-clause-same
returns-in_err-found-clause-same g c =
    c.header_bytes.ensures.same

pub returns-in_err-found-clause-opening : goal.returns-in_err-found-clause-opening
returns-in_err-found-clause-opening g c =
    c.find.ensures.opening

pub returns-in_err-found-clause-found : goal.returns-in_err-found-clause-found
returns-in_err-found-clause-found g c =
    let is : c.from_residual-in_err-found.result ≡ Err c.in_err-found.field-0.0 = search rules in
    rw is tt

pub returns-in_err-found-clause-name : goal.returns-in_err-found-clause-name
returns-in_err-found-clause-name g c =
    let is : c.from_residual-in_err-found.result ≡ Err c.in_err-found.field-0.0 = search rules in
    rw is tt

pub returns-in_err-found-clause-heading : goal.returns-in_err-found-clause-heading
returns-in_err-found-clause-heading g c =
    let is : c.from_residual-in_err-found.result ≡ Err c.in_err-found.field-0.0 = search rules in
    rw is tt

pub returns-in_err-found-clause-short : goal.returns-in_err-found-clause-short
returns-in_err-found-clause-short g c =
    λ bytes tell.
    let is : c.from_residual-in_err-found.result ≡ Err c.in_err-found.field-0.0 = search rules in
    rw is tt

pub returns-in_err-found-clause-long : goal.returns-in_err-found-clause-long
returns-in_err-found-clause-long g c =
    λ bytes what found limit tell.
    let is : c.from_residual-in_err-found.result ≡ Err c.in_err-found.field-0.0 = search rules in
    rw is (λ e. absurd (found_not_long g.J.Job.of (g.S.Store.disk.faults c.find.new.store) c.in_err-found.field-0.0 what found limit c.in_err-found.ensures.cause e))

pub returns-in_err-found-clause-early : goal.returns-in_err-found-clause-early
returns-in_err-found-clause-early g c =
    λ t.
    let is : c.from_residual-in_err-found.result ≡ Err c.in_err-found.field-0.0 = search rules in
    rw is (c.in_err-found.ensures.early t)

pub returns-in_err-found-clause-cause : goal.returns-in_err-found-clause-cause
returns-in_err-found-clause-cause g c =
    let is : c.from_residual-in_err-found.result ≡ Err c.in_err-found.field-0.0 = search rules in
    rw is (found_back g.J.Job.of g.Src.Source.source g.S.Store.disk c.args.settings.now c.args.inputs.now.items c.args.store.now c.requires.named c.requires.words c.header_bytes.new.inputs.items c.header_bytes.ensures.same (g.S.Store.disk.faults c.find.new.store) c.in_err-found.field-0.0 c.in_err-found.ensures.cause)

pub returns-clause-same : goal.returns-clause-same
returns-clause-same g c =
    c.header_bytes.ensures.same

pub returns-clause-opening : goal.returns-clause-opening
returns-clause-opening g c =
    c.find.ensures.opening

pub returns-clause-found : goal.returns-clause-found
returns-clause-found g c =
    let long : c.len-3.result ≡ length c.header_bytes.new.inputs.items = omega (arith, c.len-3.ensures, c.header_bytes.new.inputs.ok) in
    rw (← long) c.in_ok-found.ensures.found

pub returns-clause-name : goal.returns-clause-name
returns-clause-name g c =
    c.in_ok-header.ensures.name

pub returns-clause-heading : goal.returns-clause-heading
returns-clause-heading g c =
    λ p. subst IsHeader (header_named g.J.Job.of g.Src.Source.source g.S.Store.disk c.args.settings.now c.args.inputs.now.items c.args.store.now c.requires.named p c.in_ok-header.header.items c.in_ok-header.ensures.header) c.in_ok-header.ensures.heading

pub returns-clause-short : goal.returns-clause-short
returns-clause-short g c =
    λ bytes tell. sym (c.in_ok-header.ensures.first bytes tell)

pub returns-in_err-back-clause-shows : goal.returns-in_err-back-clause-shows
returns-in_err-back-clause-shows g c =
    λ bytes tell t.
    let is : c.from_residual.result ≡ Err Memory = search rules in
    rw is tt

pub returns-in_err-back-clause-barred : goal.returns-in_err-back-clause-barred
returns-in_err-back-clause-barred g c =
    λ bytes tell t barred.
    let is : c.from_residual.result ≡ Err Memory = search rules in
    rw is tt

pub returns-in_err-homes-clause-shows : goal.returns-in_err-homes-clause-shows
returns-in_err-homes-clause-shows g c =
    λ bytes tell t.
    let is : c.from_residual-in_err-homes.result ≡ Err Memory = search rules in
    rw is tt

pub returns-in_err-homes-clause-barred : goal.returns-in_err-homes-clause-barred
returns-in_err-homes-clause-barred g c =
    λ bytes tell t barred.
    let is : c.from_residual-in_err-homes.result ≡ Err Memory = search rules in
    rw is tt

pub returns-in_err-header-clause-shows : goal.returns-in_err-header-clause-shows
returns-in_err-header-clause-shows g c =
    λ bytes tell t.
    let is : c.from_residual-in_err-header.result ≡ Err c.in_err-header.field-0.0 = search rules in
    rw is (lengths_shows g.Src.Source.source c.args.inputs.now.items c.header_bytes.new.inputs.items g.J.Job.of.settings.name (header_bytes (job_of g.J.Job.of)) (g.S.Store.disk.reads c.args.store.now) c.in_err-header.field-0.0 c.in_err-header.ensures.cause)

pub returns-in_err-header-clause-barred : goal.returns-in_err-header-clause-barred
returns-in_err-header-clause-barred g c =
    λ bytes tell t barred.
    let is : c.from_residual-in_err-header.result ≡ Err c.in_err-header.field-0.0 = search rules in
    rw is tt

pub returns-in_err-found-clause-shows : goal.returns-in_err-found-clause-shows
returns-in_err-found-clause-shows g c =
    λ bytes tell t.
    let is : c.from_residual-in_err-found.result ≡ Err c.in_err-found.field-0.0 = search rules in
    rw is (subst (λ (h : List ℕ). ShowsWhy g.J.Job.of.settings.name h (g.S.Store.disk.reads c.args.store.now) c.in_err-found.field-0.0) (c.deref.ensures.value ∙ c.in_ok-header.ensures.header bytes tell ∙ header_told g.J.Job.of g.Src.Source.source g.S.Store.disk c.args.settings.now c.args.inputs.now.items c.args.store.now c.requires.named bytes tell) (c.in_err-found.ensures.shows t))

pub returns-in_err-found-clause-barred : goal.returns-in_err-found-clause-barred
returns-in_err-found-clause-barred g c =
    λ bytes tell t barred.
    let is : c.from_residual-in_err-found.result ≡ Err c.in_err-found.field-0.0 = search rules in
    rw is tt

pub returns-clause-barred : goal.returns-clause-barred
returns-clause-barred g c =
    λ bytes tell t barred. c.in_ok-found.ensures.barred t (subst (λ (h : List ℕ). IsBarred g.J.Job.of.settings.name h (g.S.Store.disk.reads c.args.store.now)) (sym (c.deref.ensures.value ∙ c.in_ok-header.ensures.header bytes tell ∙ header_told g.J.Job.of g.Src.Source.source g.S.Store.disk c.args.settings.now c.args.inputs.now.items c.args.store.now c.requires.named bytes tell)) barred)

pub returns-in_err-back-clause-kept : goal.returns-in_err-back-clause-kept
returns-in_err-back-clause-kept g c =
    λ t.
    let is : c.from_residual.result ≡ Err Memory = search rules in
    rw is tt

pub returns-in_err-homes-clause-kept : goal.returns-in_err-homes-clause-kept
returns-in_err-homes-clause-kept g c =
    λ t.
    let is : c.from_residual-in_err-homes.result ≡ Err Memory = search rules in
    rw is tt

pub returns-in_err-header-clause-kept : goal.returns-in_err-header-clause-kept
returns-in_err-header-clause-kept g c =
    λ t.
    let is : c.from_residual-in_err-header.result ≡ Err c.in_err-header.field-0.0 = search rules in
    rw is tt

pub returns-in_err-found-clause-kept : goal.returns-in_err-found-clause-kept
returns-in_err-found-clause-kept g c =
    λ t.
    let is : c.from_residual-in_err-found.result ≡ Err c.in_err-found.field-0.0 = search rules in
    rw is tt

pub returns-clause-kept : goal.returns-clause-kept
returns-clause-kept g c =
    c.in_ok-found.ensures.kept
