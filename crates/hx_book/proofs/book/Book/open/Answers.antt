use Rattle.std.proofs.Common.{◌≡◌, ◌∙◌, ◌<◌, ◌⊎◌, ℕ, Some, length, refl, sym, subst}
use Rattle.std.proofs.lemmas.List.{length-map}
use Rattle.hx_book.specs.Tasks.{count_of}
use Rattle.hx_book.proofs.Told.{began_kept, found_ready, named_back, named_count}
use Rattle.hx_book.proofs.book.Book.open.Goals as goal

pub begin-requires-clause-named : goal.begin-requires-clause-named
begin-requires-clause-named g c =
    c.requires.named

pub begin-requires-clause-some : goal.begin-requires-clause-some
begin-requires-clause-some g c =
    c.requires.some

pub begin-requires-clause-few : goal.begin-requires-clause-few
begin-requires-clause-few g c =
    c.requires.few

pub begin-requires-clause-words : goal.begin-requires-clause-words
begin-requires-clause-words g c =
    c.requires.words

pub begin-requires-clause-limits : goal.begin-requires-clause-limits
begin-requires-clause-limits g c =
    c.requires.limits

pub returns-in-Err-clause-long : goal.returns-in-Err-clause-long
returns-in-Err-clause-long g c =
    c.in-Err.ensures.long

pub returns-in-Err-clause-back : goal.returns-in-Err-clause-back
returns-in-Err-clause-back g c =
    named_back g.J.Job.of g.Src.Source.source g.S.Store.disk c.args.settings c.args.inputs.items c.args.store c.requires.named c.requires.words c.begin.new.inputs.items c.begin.ensures.same

pub returns-in-Err-clause-cause : goal.returns-in-Err-clause-cause
returns-in-Err-clause-cause g c =
    c.in-Err.ensures.cause

pub returns-in-Err-clause-early : goal.returns-in-Err-clause-early
returns-in-Err-clause-early g c =
    c.in-Err.ensures.early

pub returns-in-Err-clause-told : goal.returns-in-Err-clause-told
returns-in-Err-clause-told g c =
    λ t. (c.begin.ensures.opening.disk t).told

pub returns-in-Err-clause-good : goal.returns-in-Err-clause-good
returns-in-Err-clause-good g c =
    c.begin.ensures.opening.good

pub returns-in-Err-clause-untouched : goal.returns-in-Err-clause-untouched
returns-in-Err-clause-untouched g c =
    λ t. (c.begin.ensures.opening.disk t).untouched

pub returns-in-Err-clause-faults : goal.returns-in-Err-clause-faults
returns-in-Err-clause-faults g c =
    c.begin.ensures.opening.count

pub house-homes-requires : goal.house-homes-requires
house-homes-requires g c =
    c.begin.ensures.same.count ∙ sym (named_count g.J.Job.of g.Src.Source.source g.S.Store.disk c.args.settings c.args.inputs.items c.args.store c.requires.named)

pub invariant_of-result : goal.invariant_of-result
invariant_of-result g c =
    rw c.house-homes.ensures
    (began_kept g.J.Job.of g.Src.Source.source g.S.Store.disk c.args.settings c.args.inputs.items c.args.store c.requires.named c.requires.words c.begin.new.inputs.items c.begin.ensures.same c.begin.new.store c.in-Ok.begun.found.journal c.in-Ok.begun.found.parts.items c.in-Ok.begun.found.progress.partitions c.in-Ok.begun.found.progress.stage c.in-Ok.begun.found.progress.from c.in-Ok.begun.found.progress.flags.items
    c.begin.ensures.opening c.in-Ok.ensures.found c.requires.some c.requires.few c.requires.limits c.in-Ok.ensures.name c.in-Ok.ensures.heading)

pub returns-clause-opened : goal.returns-clause-opened
returns-clause-opened g c =
    (refl, rw c.house-homes.ensures (length-map c.begin.new.inputs.items Some ∙ c.begin.ensures.same.count), refl)

pub returns-clause-clear : goal.returns-clause-clear
returns-clause-clear g c =
    (refl, refl)

pub returns-clause-ready : goal.returns-clause-ready
returns-clause-ready g c =
    let ready = found_ready (length c.begin.new.inputs.items) c.in-Ok.begun.found.progress.partitions c.in-Ok.begun.found.progress.stage c.in-Ok.begun.found.progress.from _ c.in-Ok.begun.found.progress.flags.items c.in-Ok.ensures.found.scheduled in
    let same : length c.house-homes.result.items ≡ length c.begin.new.inputs.items = rw c.house-homes.ensures (length-map c.begin.new.inputs.items Some) in
    subst (λ (n : ℕ). (c.in-Ok.begun.found.progress.stage ≡ 9) ⊎ (c.in-Ok.begun.found.progress.from < count_of n c.in-Ok.begun.found.progress.partitions c.in-Ok.begun.found.progress.stage)) (sym same) ready

pub returns-clause-later : goal.returns-clause-later
returns-clause-later g c =
    c.begin.ensures.opening.count

pub returns-clause-short : goal.returns-clause-short
returns-clause-short g c =
    c.in-Ok.ensures.short

pub returns-in-Err-clause-shows : goal.returns-in-Err-clause-shows
returns-in-Err-clause-shows g c =
    c.in-Err.ensures.shows

pub returns-clause-barred : goal.returns-clause-barred
returns-clause-barred g c =
    c.in-Ok.ensures.barred

pub returns-clause-records : goal.returns-clause-records
returns-clause-records g c =
    c.in-Ok.ensures.kept
