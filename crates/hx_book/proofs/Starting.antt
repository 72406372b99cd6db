-- What the opening of a book leaves on the disk.
use Rattle.std.proofs.Common.{◌≡◌, ◌≢◌, ◌≤◌, ◌∙◌, ◌++◌, ◌∷◌, ℕ, List, [], Some, None, Option, Result, Ok, Err, IfOk, IfErr, false, is_some, true, length, refl, sym, ap, subst, inl, inr, ⊎_elim, arith}
use Rattle.hx_base.specs.Limits.{most_inputs}
use Rattle.hx_base.specs.declared.refusal.Refusal.{Refusal}
use Rattle.hx_base.specs.declared.refusal.Refusal.TheVariants as refusal
use Rattle.hx_base.specs.declared.settings.Settings.{Settings}
use Rattle.hx_base.specs.declared.task.Task.{Task}
use Rattle.hx_journal.specs.Headers.{IsHeader}
use Rattle.hx_journal.proofs.AtRest.{opens, refused, stands_at}
use Rattle.hx_journal.proofs.Unique.{one_journal}
use Rattle.hx_journal.specs.Journal.{IsAtRest, Opened, Stands, Trims, journal_file, temporary_file}
use Rattle.hx_journal.specs.Refusals.{IsFault, IsOpened, IsRefusedFor}
use Rattle.hx_journal.specs.declared.record.Record.{Record}
use Rattle.hx_journal.specs.declared.refusal.JournalRefusal.{JournalRefusal}
use Rattle.hx_journal.specs.declared.refusal.JournalRefusal.TheVariants as why
use Rattle.hx_outside.specs.Faults.{Rose}
use Rattle.hx_outside.specs.declared.store.StoreError.{StoreError}
use Rattle.hx_outside.specs.declared.store.StoreError.TheVariants as error
use Rattle.hx_outside.specs.Disk.{DiskMembers, Passes}
use Rattle.hx_outside.specs.Folders.{Folder, Same}
use Rattle.hx_outside.specs.Sources.{SourceMembers}
use Rattle.hx_outside.proofs.Runs.{stays}
use Rattle.hx_publish.specs.Publishing.{Publishes}
use Rattle.hx_book.specs.Tasks.{JobData, properties_path, properties_task}
use Rattle.hx_book.specs.Resumable.{IsFresh, IsRecordedIn, IsResumable, IsUnderWay, header_bytes}
use Rattle.hx_book.specs.Recordings.{IsStoreCause, of_store}
use Rattle.hx_book.specs.Books.{AreKept, AreNamed, IsBarred, IsEarly, IsFoundCause, IsGoodFor, IsInside, IsNew, IsOnlyTrimmed, IsOpenedFrom, IsOpening, IsOther, IsTaken, IsUntouched, IsWalkCause, ShowsWhy, JobMembers, job_of, of_journal}
use Rattle.hx_book.proofs.Inside.{journal_inside, temporary_inside}
use Rattle.hx_book.proofs.Keeping.{inputs_are}
use Rattle.hx_book.proofs.Parts.{task_numbered}
use Rattle.hx_book.proofs.Paths.{journal_apart}
use Rattle.hx_book.proofs.Steps.{created_step, properties_is, recorded_trimmed, trimmed_step, way_of}

pub opened_first : {Src S : Type 0} (j : JobMembers) (source : SourceMembers Src) (d : DiskMembers S) (settings : Settings) (inputs : List Src) (store : S) → AreNamed j source d settings inputs store → IsOpening j d store
opened_first j source d settings inputs store n = record {
  with_tells = n.with_tells;
  disk = λ t. record {
    told = n.tells_it t;
    later = let m = n.moment_is in omega (arith, m);
    untouched = λ f left. record { from = f; was = opening f left; others = λ m outside. refl };
  };
  good = λ p f left. record { resumable = n.resumable p f (opening f left); recorded = λ t all. all f (opening f left) };
  count = let c = n.before_is in omega (arith, c);
}
  where
    opening : (f : Folder) → d.left_since store j.moment f → j.opening f
    opening f left = n.opening_is f (d.only_now store f (subst (λ (t : ℕ). d.left_since store t f) n.moment_is left))

module _ {S : Type 0} (j : JobMembers) (few : length j.origins ≤ most_inputs) (d : DiskMembers S) (store after : S) (h : IsOpening j d store) (later : d.faults store ≤ d.faults after) where
  few_inputs : length (job_of j).inputs ≤ most_inputs
  few_inputs = let e = inputs_are j in omega (arith, few, e)

  pub same_opening : (d.tells store → Passes d store after Same) → IsOpening j d after
  same_opening call = record {
    with_tells = h.with_tells;
    disk = λ t. let disk = h.disk t in let c = call disk.told in record {
      told = c.told;
      later = omega (arith, disk.later, c.later);
      untouched = stays d store after j.moment (IsUntouched j) Same disk.later disk.untouched c (λ f g was u same. subst (IsUntouched j) (sym same) u);
    };
    good = λ p. let disk = h.disk (h.with_tells p) in
        stays d store after j.moment (IsGoodFor j) Same disk.later (h.good p) (call disk.told) (λ f g was u same. subst (IsGoodFor j) (sym same) u);
    count = let c = h.count in omega (arith, c, later);
  }

  pub trimmed_opening : (j.premises → IsHeader (header_bytes (job_of j))) → (d.tells store → Passes d store after (Trims (journal_file j.settings.name))) → IsOpening j d after
  trimmed_opening heading call = record {
    with_tells = h.with_tells;
    disk = λ t. let disk = h.disk t in let c = call disk.told in record {
      told = c.told;
      later = omega (arith, disk.later, c.later);
      untouched = stays d store after j.moment (IsUntouched j) (Trims (journal_file j.settings.name)) disk.later disk.untouched c
          (λ f g was u trims. record { from = u.from; was = u.was; others = λ n outside. trims.others n (λ e. outside (subst (IsInside j.settings.name) (sym e) (journal_inside j.settings.name))) ∙ u.others n outside });
    };
    good = λ p. let disk = h.disk (h.with_tells p) in
        stays d store after j.moment (IsGoodFor j) (Trims (journal_file j.settings.name)) disk.later (h.good p) (call disk.told)
        (λ f g was u trims. record { resumable = trimmed_step (job_of j) few_inputs f g (heading p) u.resumable trims; recorded = λ t all. recorded_trimmed (job_of j) few_inputs f g t (heading p) trims (u.recorded t all) });
    count = let c = h.count in omega (arith, c, later);
  }

  pub created_opening : (header : List ℕ) → (j.premises → header ≡ header_bytes (job_of j)) → (j.premises → (f : Folder) → d.may_leave store f → f (journal_file j.settings.name) ≡ None)
      → (d.tells store → Passes d store after (Publishes (temporary_file j.settings.name) (journal_file j.settings.name) (header ++ 0 ∷ []))) → IsOpening j d after
  created_opening header is absent call = record {
    with_tells = h.with_tells;
    disk = λ t. let disk = h.disk t in let c = call disk.told in record {
      told = c.told;
      later = omega (arith, disk.later, c.later);
      untouched = stays d store after j.moment (IsUntouched j) _ disk.later disk.untouched c
          (λ f g was u published. record {
            from = u.from;
            was = u.was;
            others = λ n outside. published.others n
                (λ e. outside (subst (IsInside j.settings.name) (sym e) (temporary_inside j.settings.name)))
                (λ e. outside (subst (IsInside j.settings.name) (sym e) (journal_inside j.settings.name))) ∙ u.others n outside;
          });
    };
    good = λ p. let disk = h.disk (h.with_tells p) in
        stays d store after j.moment (IsGoodFor j) _ disk.later (h.good p) (call disk.told)
        (λ f g was u published. record {
          resumable = created_step (job_of j) few_inputs f g (fresh p f was u) (subst (λ (x : List ℕ). Publishes (temporary_file j.settings.name) (journal_file j.settings.name) (x ++ 0 ∷ []) f g) (is p) published);
          recorded = λ t all. absurd (none p f was (u.recorded t all));
        });
    count = let c = h.count in omega (arith, c, later);
  }
    where
      fresh : j.premises → (f : Folder) → d.may_leave store f → IsGoodFor j f → IsFresh (job_of j) f
      fresh p f was u = ⊎_elim (λ x. x) (λ (records, way). absurd (let e = sym (absent p f was) ∙ way.journal_is.is in cc e)) u.resumable

      none : j.premises → (f : Folder) → d.may_leave store f → {t : Task} → IsRecordedIn (job_of j) t f → ⊥
      none p f was (records, stands, has) = let e = sym (absent p f was) ∙ stands.is in cc e

-- no folder has changed yet
pub unchanged_first : {Src S : Type 0} (j : JobMembers) (source : SourceMembers Src) (d : DiskMembers S) (settings : Settings) (inputs : List Src) (store : S) → AreNamed j source d settings inputs store → (f : Folder) → d.left_since store j.moment f → j.opening f
unchanged_first j source d settings inputs store n f left = n.opening_is f (d.only_now store f (subst (λ (t : ℕ). d.left_since store t f) n.moment_is left))

abbrev Cut : JobMembers → Folder → Type 0
Cut j f = (g : Folder) × j.opening g × Trims (journal_file j.settings.name) g f

pub unchanged_only : {S : Type 0} (j : JobMembers) (d : DiskMembers S) (store : S) → ((f : Folder) → d.left_since store j.moment f → j.opening f) → IsOnlyTrimmed j d store
unchanged_only j d store unchanged f left = (f, unchanged f left, record { others = λ n apart. refl; there = inl refl })

pub trimmed_only : {S : Type 0} (j : JobMembers) (d : DiskMembers S) (store after : S) → j.moment ≤ d.moment store → ((f : Folder) → d.left_since store j.moment f → j.opening f)
    → Passes d store after (Trims (journal_file j.settings.name)) → IsOnlyTrimmed j d after
trimmed_only j d store after le unchanged run =
    stays d store after j.moment (Cut j) (Trims (journal_file j.settings.name)) le (unchanged_only j d store unchanged) run
    (λ f g was cut step. (f, unchanged f (d.counts_now store j.moment f le was), step))

pub same_only : {S : Type 0} (j : JobMembers) (d : DiskMembers S) (store after : S) → j.moment ≤ d.moment store → IsOnlyTrimmed j d store → Passes d store after Same → IsOnlyTrimmed j d after
same_only j d store after le only run = stays d store after j.moment (Cut j) Same le only run (λ f g was cut same. subst (Cut j) (sym same) cut)

-- a file that no image has is in none after calls that change nothing
pub absent_still : {S : Type 0} (d : DiskMembers S) (store after : S) (name : List ℕ) → Passes d store after Same → ((f : Folder) → d.may_leave store f → f name ≡ None) → (f : Folder) → d.may_leave after f → f name ≡ None
absent_still d store after name run none f now =
    let (g, was, same) = run.each f (d.counts_now after (d.moment store) f run.later now) in
    (λ k. same k name) ∙ none g was

module _ {S : Type 0} (j : JobMembers) (d : DiskMembers S) (store : S) (h : IsOpening j d store) (p : j.premises) where
  now_good : (f : Folder) → d.may_leave store f → IsResumable (job_of j) f
  now_good f now = let disk = h.disk (h.with_tells p) in (h.good p f (d.counts_now store j.moment f disk.later now)).resumable

  read_good : IsResumable (job_of j) (d.reads store)
  read_good = now_good (d.reads store) (d.reads_now store (h.disk (h.with_tells p)).told)

  -- a journal that opens is the job's
  pub own_header : (journal : Opened) → IsHeader (header_bytes (job_of j)) → IsOpened (journal_file j.settings.name) (d.reads store (journal_file j.settings.name)) journal → journal.header ≡ header_bytes (job_of j)
  own_header journal heading opened = by read_good
    where
      by : IsResumable (job_of j) (d.reads store) → journal.header ≡ header_bytes (job_of j)
      by (inl fresh) = absurd (let e = sym fresh.no_journal ∙ opened.stands.is in cc e)
      by (inr (records, way)) = (one_journal journal.header (header_bytes (job_of j)) journal.records records (d.reads store (journal_file j.settings.name)) opened.heading heading opened.stands way.journal_is).0

  -- and none is damaged
  pub never_damaged : (place : ℕ) → IsHeader (header_bytes (job_of j)) → IsRefusedFor (d.reads store (journal_file j.settings.name)) (why.Damaged place) → ⊥
  never_damaged place heading (bytes, is, damaged) = by read_good
    where
      by : IsResumable (job_of j) (d.reads store) → ⊥
      by (inl fresh) = let e = sym fresh.no_journal ∙ is in cc e
      by (inr (records, way)) = refused (header_bytes (job_of j)) records (d.reads store (journal_file j.settings.name)) (why.Damaged place) heading way.journal_is (bytes, is, damaged)

  -- where there is no journal, there are no properties
  pub never_taken : (bytes : List ℕ) → ((f : Folder) → d.may_leave store f → f (journal_file j.settings.name) ≡ None) → d.reads store (properties_path j.settings.name) ≡ Some bytes → ⊥
  never_taken bytes none there = by read_good
    where
      by : IsResumable (job_of j) (d.reads store) → ⊥
      by (inl fresh) = let e = sym fresh.no_properties ∙ there in cc e
      by (inr (records, way)) = let e = sym (none (d.reads store) (d.reads_now store (h.disk (h.with_tells p)).told)) ∙ way.journal_is.is in cc e

  pub taken_never : ((f : Folder) → d.may_leave store f → f (journal_file j.settings.name) ≡ None) → true ≡ is_some (d.reads store (properties_path j.settings.name)) → ⊥
  taken_never none some = by (d.reads store (properties_path j.settings.name)) refl some
    where
      by : (o : Option (List ℕ)) → d.reads store (properties_path j.settings.name) ≡ o → true ≡ is_some o → ⊥
      by None e some = cc some
      by (Some bytes) e some = never_taken bytes none e

  -- each image is under way with the records of a journal at rest
  pub opened_ways : (file header : List ℕ) (records : List Record) → file ≡ journal_file j.settings.name → header ≡ header_bytes (job_of j) → IsAtRest d store file header records → (f : Folder) → d.may_leave store f → IsUnderWay (job_of j) f records
  opened_ways file header records file_is header_is rest f now =
      let stands : Stands (header_bytes (job_of j)) records (f (journal_file j.settings.name)) =
      subst (λ (n : List ℕ). Stands (header_bytes (job_of j)) records (f n)) file_is
      (subst (λ (x : List ℕ). Stands x records (f file)) header_is (stands_at d store file header records f rest now)) in
      way_of (job_of j) f records (now_good f now) stands

-- a journal that was created opens as it stands
module _ {S : Type 0} (d : DiskMembers S) (store : S) (name header : List ℕ) (told : d.tells store) (heading : IsHeader header) (rest : IsAtRest d store name header []) where
  pub created_header : (journal : Opened) → IsOpened name (d.reads store name) journal → IsNew header journal
  created_header journal opened = let same = (opens name header [] (d.reads store name) journal heading (stands_at d store name header [] (d.reads store) rest (d.reads_now store told)) opened) in record { header_is = ap (λ (o : Opened). o.header) same; empty = ap (λ (o : Opened). o.records) same }

  pub created_refused : (r : JournalRefusal) → IsRefusedFor (d.reads store name) r → IsFault r
  created_refused r for = refused header [] (d.reads store name) r heading (stands_at d store name header [] (d.reads store) rest (d.reads_now store told)) for

-- why a journal isn't opened, as a refusal
pub journal_cause : (j : JobMembers) (faults : ℕ) (r : JournalRefusal) → (j.premises → IsFault r) → (r ≡ why.StoreFault → Rose j.before faults) → IsFoundCause j faults (of_journal r)
journal_cause j faults why.Absent never failed = ((refl, inl refl), never)
journal_cause j faults (why.Damaged place) never failed = ((refl, inl refl), never)
journal_cause j faults why.StoreFault never failed = failed refl
journal_cause j faults why.Memory never failed = tt

-- a store's error as a refusal
pub store_cause : (j : JobMembers) (before now : ℕ) (e : StoreError) → j.before ≤ before → (e ≡ error.Failed → Rose before now) → IsFoundCause j now (of_store e)
store_cause j before now error.Failed le failed = let f = failed refl in omega (arith, le, f)
store_cause j before now error.Memory le failed = tt

pub store_late : (e : StoreError) → IsEarly (of_store e) → ⊥
store_late error.Failed early = early
store_late error.Memory early = early

pub journal_late : (r : JournalRefusal) → IsEarly (of_journal r) → ⊥
journal_late why.Absent early = early
journal_late (why.Damaged place) early = early
journal_late why.StoreFault early = early
journal_late why.Memory early = early

pub cause_of_store : (j : JobMembers) (before now : ℕ) (r : Refusal) → j.before ≤ before → IsStoreCause before now r → IsFoundCause j now r
cause_of_store j before now refusal.StoreFault le cause = omega (arith, le, cause)
cause_of_store j before now refusal.Memory le cause = tt
cause_of_store j before now refusal.Usage le cause = absurd cause
cause_of_store j before now (refusal.BadInput i r w) le cause = absurd cause
cause_of_store j before now (refusal.Overfull p k) le cause = absurd cause
cause_of_store j before now (refusal.TooNarrow l r g) le cause = absurd cause
cause_of_store j before now (refusal.InputFault i) le cause = absurd cause
cause_of_store j before now refusal.SinkFault le cause = absurd cause
cause_of_store j before now (refusal.NoCatalogue s) le cause = absurd cause
cause_of_store j before now (refusal.OtherJob p k a) le cause = absurd cause
cause_of_store j before now (refusal.Damaged s f p) le cause = absurd cause
cause_of_store j before now (refusal.InputChanged i p k f) le cause = absurd cause
cause_of_store j before now (refusal.TooMany w f l) le cause = absurd cause
cause_of_store j before now refusal.NameTaken le cause = absurd cause

pub store_not_early : (before now : ℕ) (r : Refusal) → IsStoreCause before now r → IsEarly r → ⊥
store_not_early before now (refusal.TooMany w f l) cause early = absurd cause
store_not_early before now refusal.NameTaken cause early = absurd cause
store_not_early before now (refusal.OtherJob p k a) cause early = absurd cause
store_not_early before now refusal.StoreFault cause early = early
store_not_early before now refusal.Memory cause early = early
store_not_early before now refusal.Usage cause early = early
store_not_early before now (refusal.BadInput i r w) cause early = early
store_not_early before now (refusal.Overfull p k) cause early = early
store_not_early before now (refusal.TooNarrow l r g) cause early = early
store_not_early before now (refusal.InputFault i) cause early = early
store_not_early before now refusal.SinkFault cause early = early
store_not_early before now (refusal.NoCatalogue s) cause early = early
store_not_early before now (refusal.Damaged s f p) cause early = early
store_not_early before now (refusal.InputChanged i p k f) cause early = early

-- why a walk stopped
pub walk_cause : (j : JobMembers) (now : ℕ) (r : Refusal) → IsWalkCause r → (j.premises → r ≡ refusal.Memory) → IsFoundCause j now r
walk_cause j now (refusal.Damaged s f p) cause never = (cause, λ premises. let e = never premises in cc e)
walk_cause j now refusal.Memory cause never = tt
walk_cause j now refusal.StoreFault cause never = absurd cause
walk_cause j now refusal.Usage cause never = absurd cause
walk_cause j now (refusal.BadInput i r w) cause never = absurd cause
walk_cause j now (refusal.Overfull p k) cause never = absurd cause
walk_cause j now (refusal.TooNarrow l r g) cause never = absurd cause
walk_cause j now (refusal.InputFault i) cause never = absurd cause
walk_cause j now refusal.SinkFault cause never = absurd cause
walk_cause j now (refusal.NoCatalogue s) cause never = absurd cause
walk_cause j now (refusal.OtherJob p k a) cause never = absurd cause
walk_cause j now (refusal.InputChanged i p k f) cause never = absurd cause
walk_cause j now (refusal.TooMany w f l) cause never = absurd cause
walk_cause j now refusal.NameTaken cause never = absurd cause

pub walk_late : (r : Refusal) → IsWalkCause r → IsEarly r → ⊥
walk_late (refusal.TooMany w f l) cause early = absurd cause
walk_late refusal.NameTaken cause early = absurd cause
walk_late (refusal.OtherJob p k a) cause early = absurd cause
walk_late refusal.StoreFault cause early = early
walk_late refusal.Memory cause early = early
walk_late refusal.Usage cause early = early
walk_late (refusal.BadInput i r w) cause early = early
walk_late (refusal.Overfull p k) cause early = early
walk_late (refusal.TooNarrow l r g) cause early = early
walk_late (refusal.InputFault i) cause early = early
walk_late refusal.SinkFault cause early = early
walk_late (refusal.NoCatalogue s) cause early = early
walk_late (refusal.Damaged s f p) cause early = early
walk_late (refusal.InputChanged i p k f) cause early = early

-- another job's header
pub other_cause : (j : JobMembers) (now : ℕ) (header own : List ℕ) (r : Refusal) → IsOther header own r → (j.premises → ⊥) → IsFoundCause j now r
other_cause j now header own (refusal.OtherJob p k a) is never = never
other_cause j now header own refusal.StoreFault is never = absurd is
other_cause j now header own refusal.Memory is never = absurd is
other_cause j now header own refusal.Usage is never = absurd is
other_cause j now header own (refusal.BadInput i r w) is never = absurd is
other_cause j now header own (refusal.Overfull p k) is never = absurd is
other_cause j now header own (refusal.TooNarrow l r g) is never = absurd is
other_cause j now header own (refusal.InputFault i) is never = absurd is
other_cause j now header own refusal.SinkFault is never = absurd is
other_cause j now header own (refusal.NoCatalogue s) is never = absurd is
other_cause j now header own (refusal.Damaged s f p) is never = absurd is
other_cause j now header own (refusal.InputChanged i p k f) is never = absurd is
other_cause j now header own (refusal.TooMany w f l) is never = absurd is
other_cause j now header own refusal.NameTaken is never = absurd is

pub if_ok_more : {T E : Type 0} (r : Result T E) (P Q : T → Type 0) → ((x : T) → P x → Q x) → IfOk r P → IfOk r Q
if_ok_more (Ok x) P Q more h = more x h
if_ok_more (Err e) P Q more h = tt

pub if_err_more : {T E : Type 0} (r : Result T E) (P Q : E → Type 0) → ((x : E) → P x → Q x) → IfErr r P → IfErr r Q
if_err_more (Ok x) P Q more h = tt
if_err_more (Err e) P Q more h = more e h

-- ---- other jobs

pub properties_apart : (j : JobMembers) → length j.origins ≤ most_inputs → properties_path j.settings.name ≢ journal_file j.settings.name
properties_apart j few = let e = inputs_are j in journal_apart j.settings.name [] properties_task (task_numbered (job_of j) (omega (arith, few, e)) properties_task (properties_is (job_of j)))

pub properties_still : {S : Type 0} (j : JobMembers) → length j.origins ≤ most_inputs → (d : DiskMembers S) (store after : S) → Passes d store after (Trims (journal_file j.settings.name))
    → d.reads after (properties_path j.settings.name) ≡ d.reads store (properties_path j.settings.name)
properties_still j few d store after run = run.seen.others (properties_path j.settings.name) (properties_apart j few)

-- refusals that aren't early show nothing of the folder
pub shows_late : (name header : List ℕ) (f : Folder) (r : Refusal) → (IsEarly r → ⊥) → (IsTaken name f → ⊥) → ShowsWhy name header f r
shows_late name header f refusal.NameTaken late untaken = absurd (late tt)
shows_late name header f (refusal.OtherJob p k a) late untaken = absurd (late tt)
shows_late name header f refusal.StoreFault late untaken = tt
shows_late name header f refusal.Memory late untaken = tt
shows_late name header f refusal.Usage late untaken = tt
shows_late name header f (refusal.BadInput i r w) late untaken = tt
shows_late name header f (refusal.Overfull p k) late untaken = tt
shows_late name header f (refusal.TooNarrow l r g) late untaken = tt
shows_late name header f (refusal.InputFault i) late untaken = tt
shows_late name header f refusal.SinkFault late untaken = tt
shows_late name header f (refusal.NoCatalogue s) late untaken = tt
shows_late name header f (refusal.Damaged s g p) late untaken = untaken
shows_late name header f (refusal.InputChanged i p k g) late untaken = tt
shows_late name header f (refusal.TooMany w g l) late untaken = tt

pub store_shows : (name header : List ℕ) (f : Folder) (before now : ℕ) (r : Refusal) → IsStoreCause before now r → ShowsWhy name header f r
store_shows name header f before now refusal.StoreFault cause = tt
store_shows name header f before now refusal.Memory cause = tt
store_shows name header f before now refusal.NameTaken cause = absurd cause
store_shows name header f before now (refusal.OtherJob p k a) cause = absurd cause
store_shows name header f before now (refusal.Damaged s g p) cause = absurd cause
store_shows name header f before now refusal.Usage cause = tt
store_shows name header f before now (refusal.BadInput i r w) cause = tt
store_shows name header f before now (refusal.Overfull p k) cause = tt
store_shows name header f before now (refusal.TooNarrow l r g) cause = tt
store_shows name header f before now (refusal.InputFault i) cause = tt
store_shows name header f before now refusal.SinkFault cause = tt
store_shows name header f before now (refusal.NoCatalogue s) cause = tt
store_shows name header f before now (refusal.InputChanged i p k g) cause = tt
store_shows name header f before now (refusal.TooMany w g l) cause = tt

pub fresh_untaken : (job : JobData) (f : Folder) → IsFresh job f → IsTaken job.settings.name f → ⊥
fresh_untaken job f fresh taken = let e = ap is_some (sym fresh.no_properties) in let t = taken.properties in cc (e, t)

-- where a journal was opened or made, the name isn't taken
pub not_taken : (job : JobData) (header : List ℕ) (f : Folder) (journal : Opened) → IsOpenedFrom job header f journal → IsTaken job.settings.name f → ⊥
not_taken job header f journal (inl opened) taken = let e = sym taken.no_journal ∙ opened.stands.is in cc e
not_taken job header f journal (inr (fresh, new)) taken = fresh_untaken job f fresh taken

pub none_there : (o : Option (List ℕ)) → false ≡ is_some o → o ≡ None
none_there None e = refl
none_there (Some bytes) e = absurd (cc e)

pub other_shows : (job : JobData) (header : List ℕ) (f : Folder) (journal : Opened) (r : Refusal) → IsOpenedFrom job header f journal → IsOther journal.header header r → (journal.header ≡ header → ⊥) → ShowsWhy job.settings.name header f r
other_shows job header f journal (refusal.OtherJob p k a) (inl opened) differ apart = (record { kept = journal.header; heading = opened.heading; records = journal.records; stands = opened.stands; apart = apart }, differ)
other_shows job header f journal (refusal.OtherJob p k a) (inr (fresh, new)) differ apart = absurd (apart new.header_is)
other_shows job header f journal refusal.NameTaken origin is apart = absurd is
other_shows job header f journal refusal.StoreFault origin is apart = absurd is
other_shows job header f journal refusal.Memory origin is apart = absurd is
other_shows job header f journal refusal.Usage origin is apart = absurd is
other_shows job header f journal (refusal.BadInput i r w) origin is apart = absurd is
other_shows job header f journal (refusal.Overfull p k) origin is apart = absurd is
other_shows job header f journal (refusal.TooNarrow l r g) origin is apart = absurd is
other_shows job header f journal (refusal.InputFault i) origin is apart = absurd is
other_shows job header f journal refusal.SinkFault origin is apart = absurd is
other_shows job header f journal (refusal.NoCatalogue s) origin is apart = absurd is
other_shows job header f journal (refusal.Damaged s g p) origin is apart = absurd is
other_shows job header f journal (refusal.InputChanged i p k g) origin is apart = absurd is
other_shows job header f journal (refusal.TooMany w g l) origin is apart = absurd is

-- a name that is barred has no journal with the job's header
pub not_barred : (job : JobData) (header : List ℕ) (f : Folder) (journal : Opened) → IsOpenedFrom job header f journal → journal.header ≡ header → IsBarred job.settings.name header f → ⊥
not_barred job header f journal (inl opened) same (inl taken) = let e = sym taken.no_journal ∙ opened.stands.is in cc e
not_barred job header f journal (inl opened) same (inr other) =
    other.apart ((one_journal other.kept journal.header other.records journal.records (f (journal_file job.settings.name)) other.heading opened.heading other.stands opened.stands).0 ∙ same)
not_barred job header f journal (inr (fresh, new)) same (inl taken) = let e = ap is_some (sym fresh.no_properties) in let t = taken.properties in cc (e, t)
not_barred job header f journal (inr (fresh, new)) same (inr other) = let e = sym fresh.no_journal ∙ other.stands.is in cc e

pub kept_records : (job : JobData) (header : List ℕ) (f : Folder) (journal : Opened) → IsOpenedFrom job header f journal → AreKept job f journal.records
kept_records job header f journal (inl opened) = inl (journal.header, opened.heading, opened.stands)
kept_records job header f journal (inr (fresh, new)) = inr (fresh, new.empty)
