-- How an import ends: its book wasn't opened, was closed at the end, or was closed with a task left.
use Rattle.std.proofs.Common.{◌≡◌, ◌<◌, ◌≤◌, ◌-◌, ◌^◌, ◌∙◌, ◌∷◌, ℕ, zero, suc, List, [], Some, None, Option, IfSome, IsSome, length, map, min, slice_get, refl, sym, ap, subst, arith, inl, inr}
use Rattle.std.proofs.Math.Nat.{min-le_right}
use Rattle.std.specs.Option.{option_map}
use Rattle.std.proofs.lemmas.List.{length-map}
use Rattle.std.proofs.lemmas.Option.{slice_get-map}
use Rattle.hx_base.specs.Limits.{FitsLimits, most_inputs}
use Rattle.hx_base.specs.declared.refusal.Refusal.{Refusal}
use Rattle.hx_base.specs.declared.refusal.Refusal.TheVariants as refusal
use Rattle.hx_base.specs.declared.settings.Settings.{Settings}
use Rattle.hx_inputs.specs.Sources.{Tell}
use Rattle.hx_outside.specs.Disk.{DiskMembers}
use Rattle.hx_outside.specs.Folders.{Folder}
use Rattle.hx_outside.specs.Sources.{SourceMembers}
use Rattle.hx_book.specs.Books.{AreBack, AreNamed, AreNumbers, IsBackCause, IsClosedCause, IsEarly as IsBackEarly, IsGoodFor, IsOnlyTrimmed, IsOutsideCause, IsTaskCause, IsUntouched, JobMembers, Origin, Shown, input_of, job_of, origin_of, told_bytes}
use Rattle.hx_book.specs.Resumable.{IsFiledWhole, IsResumable, done_of}
use Rattle.hx_book.specs.Tasks.{InputData, IsNext, JobData, task}
use Rattle.hx_base.specs.declared.task.Task.{Task}
use Rattle.hx_journal.specs.declared.record.Record.{Record}
use Rattle.hx_import.specs.Importing.{IsRun, IsRunCause, members_of}
use Rattle.hx_import.specs.Imports.{IsEarly, inputs_of, job_of as asked_job}
use Rattle.hx_import.specs.Working.{IsAsked, IsAtWork}

told_here : (o : Option (List ℕ)) (b : List ℕ) → o ≡ Some b → told_bytes o ≡ b
told_here None b is = absurd (cc is)
told_here (Some x) b is = cc is

-- the job of the members is that of the names and bytes
same_inputs : {Src : Type 0} (source : SourceMembers Src) (inputs : List Src) (bytes : List (List ℕ)) → Tell source inputs bytes → map input_of (map (origin_of source) inputs) ≡ inputs_of (map source.label inputs) bytes
same_inputs source [] [] tell = refl
same_inputs source [] (b ∷ bytes) tell = absurd (cc tell)
same_inputs source (s ∷ inputs) [] tell = absurd (cc tell)
same_inputs source (s ∷ inputs) (b ∷ bytes) tell =
    let first : source.told s ≡ Some b = cc tell in
    let more : map source.told inputs ≡ map (λ (x : List ℕ). Some x) bytes = cc tell in
    ap (λ (x : List ℕ). record { name = source.label s; bytes = x } ∷ map input_of (map (origin_of source) inputs)) (told_here (source.told s) b first)
    ∙ ap (λ (xs : List InputData). record { name = source.label s; bytes = b } ∷ xs) (same_inputs source inputs bytes more)

each_told : {Src : Type 0} (source : SourceMembers Src) (inputs : List Src) (bytes : List (List ℕ)) → Tell source inputs bytes → (n : ℕ) (s : Src) → slice_get inputs n ≡ Some s → IsSome (source.told s)
each_told source [] bytes tell n s at = absurd (cc at)
each_told source (x ∷ inputs) [] tell n s at = absurd (cc tell)
each_told source (x ∷ inputs) (b ∷ bytes) tell zero s at =
    let first : source.told x ≡ Some b = cc tell in
    let same : x ≡ s = cc at in
    subst (λ (y : _). IsSome (source.told y)) same (rw first refl)
each_told source (x ∷ inputs) (b ∷ bytes) tell (suc n) s at =
    let more : map source.told inputs ≡ map (λ (x : List ℕ). Some x) bytes = cc tell in
    each_told source inputs bytes more n s at

-- the members that an import takes are those of its arguments
module _ {Src S : Type 0} (source : SourceMembers Src) (d : DiskMembers S) (settings : Settings) (inputs : List Src) (store : S) where
  pub job_same : (bytes : List (List ℕ)) → Tell source inputs bytes → job_of (members_of source d settings inputs store) ≡ asked_job settings (map source.label inputs) bytes
  job_same bytes tell = ap (λ (xs : List InputData). record { settings = settings; inputs = xs }) (same_inputs source inputs bytes tell)

  tell : (o : Option Src) → ((s : Src) → o ≡ Some s → IsSome (source.told s)) → (origin : Origin) → option_map (origin_of source) o ≡ Some origin → IsSome origin.told
  tell None each origin at = absurd (cc at)
  tell (Some s) each origin at =
      let same : origin_of source s ≡ origin = cc at in
      subst (λ (o : Origin). IsSome o.told) same (each s refl)

  pub are_named : AreNamed (members_of source d settings inputs store) source d settings inputs store
  are_named = record {
    settings_are = refl;
    origins_are = refl;
    moment_is = refl;
    before_is = refl;
    tells_it = λ t. t;
    opening_is = λ f now. now;
    with_tells = λ p. p.2.told;
    told = λ p n origin at. tell (slice_get inputs n) (λ s is. each_told source inputs p.0 p.1 n s is) origin (sym (slice_get-map (origin_of source) inputs n) ∙ at);
    resumable = λ p f now. subst (λ (job : JobData). IsResumable job f) (sym (job_same p.0 p.1)) (p.2.resumable f now);
  }

module _ {Src S : Type 0} (j : JobMembers) (source : SourceMembers Src) (d : DiskMembers S) where
  pub is_asked : (settings : Settings) (inputs : List Src) (store : S) → AreNamed j source d settings inputs store → FitsLimits settings → length inputs ≤ most_inputs → IsAsked j
  is_asked settings inputs store named fits few = record {
    fits = subst FitsLimits (sym named.settings_are) fits;
    few = omega (arith, few, ap (length {A = Origin}) named.origins_are, length-map inputs (origin_of source));
    told = named.told;
  }

  closed_cause : (o : Option Refusal) (inputs : List Src) (faults : ℕ) → IfSome o (IsClosedCause j source inputs faults) → IfSome o (IsRunCause j source inputs faults)
  closed_cause None inputs faults h = tt
  closed_cause (Some r) inputs faults h = inr h

  module _ (inputs : List Src) (store : S) (back : AreBack j source inputs) (told : j.tells → d.tells store) (good : j.premises → (f : Folder) → d.left_since store j.moment f → IsGoodFor j f)
      (untouched : j.tells → (f : Folder) → d.left_since store j.moment f → IsUntouched j f) (later : j.before ≤ d.faults store) where
    -- a refused import
    pub refused_run : (o : Option Refusal) (rows partitions margin : ℕ) → IsSome o → IfSome o (IsRunCause j source inputs (d.faults store)) → (j.tells → IfSome o (λ r. IsEarly r → IsOnlyTrimmed j d store)) → (rows ≡ 0) × (partitions ≡ 0) × (margin ≡ 0)
        → IsRun j source d o rows partitions margin inputs store
    refused_run o rows partitions margin some cause early nothing = record {
      back = back;
      cause = cause;
      told = told;
      good = good;
      untouched = untouched;
      early = early;
      filed = λ p none. absurd (not_none o some none);
      numbers = λ p none. absurd (not_none o some none);
      small = λ none. absurd (not_none o some none);
      nothing = λ s. nothing;
      later = later;
    }
      where
        not_none : (o : Option Refusal) → IsSome o → o ≡ None → ⊥
        not_none None some none = cc some
        not_none (Some r) some none = cc none

    outside_late : (r : Refusal) → IsOutsideCause j source (λ n s. slice_get inputs n ≡ Some s) (d.faults store) r → IsEarly r → ⊥
    outside_late refusal.StoreFault h is = is
    outside_late (refusal.InputFault input) h is = is
    outside_late refusal.Memory h is = is
    outside_late _ h is = h

    task_late : (t : Task) (r : Refusal) → IsTaskCause j t r → IsEarly r → ⊥
    task_late t (refusal.BadInput input row why) h is = is
    task_late t (refusal.Overfull pixel count) h is = is
    task_late t (refusal.TooMany what found limit) h is = is h.1
    task_late t (refusal.InputChanged input pixel kept found) h is = is
    task_late t (refusal.Damaged side file place) h is = is
    task_late t _ h is = h

    -- a refusal of the work comes later, and is none of those
    pub closed_late : (o : Option Refusal) → IfSome o (IsClosedCause j source inputs (d.faults store)) → IfSome o (λ r. IsEarly r → ⊥)
    closed_late None h = tt
    closed_late (Some r) (inl h) = λ is. outside_late r h is
    closed_late (Some r) (inr h) = λ is. task_late h.refused r h.cause is

    pub stopped_late : (o p : Option Refusal) → IfSome o (IsClosedCause j source inputs (d.faults store)) → (IsSome o → p ≡ o) → (o ≡ None → p ≡ Some refusal.Memory) → IfSome p (λ r. IsEarly r → ⊥)
    stopped_late None p h kept none = rw (none refl) (λ is. is)
    stopped_late (Some r) p h kept none = rw (kept refl) (closed_late (Some r) h)

    -- a refusal of the work comes later than those before which no file is changed
    closed_early : (o : Option Refusal) → IfSome o (IsClosedCause j source inputs (d.faults store)) → IfSome o (λ r. IsEarly r → IsOnlyTrimmed j d store)
    closed_early None h = tt
    closed_early (Some r) (inl h) = λ is. absurd (outside_late r h is)
    closed_early (Some r) (inr h) = λ is. absurd (task_late h.refused r h.cause is)

    -- one whose book was closed
    module _ (o : Option Refusal) (rows partitions margin : ℕ) (cause : IfSome o (IsClosedCause j source inputs (d.faults store))) (nothing : IsSome o → (rows ≡ 0) × (partitions ≡ 0) × (margin ≡ 0)) where
      pub ended_run : (j.premises → o ≡ None → (f : Folder) → d.may_leave store f → IsFiledWhole (job_of j) f) → (j.premises → o ≡ None → AreNumbers (job_of j) rows partitions margin)
          → (o ≡ None → (rows < 2 ^ 64) × (margin < 2 ^ 64)) → IsRun j source d o rows partitions margin inputs store
      ended_run filed numbers small =
          record { back = back; cause = closed_cause o inputs (d.faults store) cause; told = told; good = good; untouched = untouched; early = λ tells. closed_early o cause; filed = filed; numbers = numbers; small = small; nothing = nothing; later = later }

      pub stopped_run : (p : Option Refusal) (r q m : ℕ) → (IsSome o → (p ≡ o) × (r ≡ rows) × (q ≡ partitions) × (m ≡ margin)) → (o ≡ None → (p ≡ Some refusal.Memory) × (r ≡ 0) × (q ≡ 0) × (m ≡ 0))
          → IsRun j source d p r q m inputs store
      stopped_run p r q m kept none = by o refl
        where
          by : (x : Option Refusal) → o ≡ x → IsRun j source d p r q m inputs store
          by None is =
              let (same, a, b, c) = none is in
              refused_run p r q m (rw same refl) (rw same (inl tt)) (λ tells. rw same (λ is_early. absurd is_early)) (a, b, c)
          by (Some w) is =
              let some : IsSome o = rw is refl in
              let (same, a, b, c) = kept some in
              let (x, y, z) = nothing some in
              refused_run p r q m (rw (same, is) refl) (rw same (closed_cause o inputs (d.faults store) cause)) (λ tells. rw same (closed_early o cause)) (a ∙ x, b ∙ y, c ∙ z)

pub small_told : (rows sum : ℕ) → rows ≡ min sum (2 ^ 64 - 1) → rows < 2 ^ 64
small_told rows sum is = let most = min-le_right sum (2 ^ 64 - 1) in omega (arith, is, most)

-- a task that was claimed is one to work at
pub claimed_work : (j : JobMembers) (before now : Shown) (t : Task) → before.settings ≡ j.settings → before.first ≡ None → t ≡ task before.stage before.from → now.held ≡ Some t.number
    → (j.premises → IsNext (job_of j) (done_of before.records) t) → (now.records ≡ before.records) × (now.kept ≡ before.kept) × (now.first ≡ before.first) × (now.stage ≡ before.stage) × (now.faults ≡ before.faults)
    → now.settings ≡ before.settings → IsAtWork j now t
claimed_work j before now t own clear is held next (records, kept, first, stage, faults) settings = record {
  settings = settings ∙ own;
  held = held;
  kind = ap (λ (x : Task). x.kind) is ∙ sym stage;
  clear = first ∙ clear;
  next = λ p. subst (λ (rs : List Record). IsNext (job_of j) (done_of rs) t) (sym records) (next p);
}

-- a refusal of the opening
pub back_early : {Src S : Type 0} (j : JobMembers) (source : SourceMembers Src) (d : DiskMembers S) (inputs : List Src) (store : S) (r : Refusal) → IsBackCause j source inputs (d.faults store) r
    → (j.tells → IsBackEarly r → IsOnlyTrimmed j d store) → j.tells → IsEarly r → IsOnlyTrimmed j d store
back_early j source d inputs store (refusal.TooMany what found limit) cause early tells is = early tells tt
back_early j source d inputs store refusal.NameTaken cause early tells is = early tells tt
back_early j source d inputs store (refusal.OtherJob place kept asked) cause early tells is = early tells tt
back_early j source d inputs store (refusal.NoCatalogue side) cause early tells is = absurd cause
back_early j source d inputs store _ cause early tells is = absurd is

pub not_late : (o : Option Refusal) (place kept asked : ℕ) → IfSome o (λ r. IsEarly r → ⊥) → o ≡ Some (refusal.OtherJob place kept asked) → ⊥
not_late None place kept asked late is = cc is
not_late (Some r) place kept asked late is =
    let same : r ≡ refusal.OtherJob place kept asked = cc is in
    subst (λ (x : Refusal). IsEarly x → ⊥) same late tt
