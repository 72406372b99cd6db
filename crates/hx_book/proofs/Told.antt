-- The sources of a job's inputs at its opening.
use Rattle.std.proofs.Common.{◌≡◌, ◌<◌, ◌≤◌, ◌∙◌, ◌∷◌, ◌⊎◌, ℕ, Bool, zero, suc, List, [], All, Some, None, Option, IsSome, length, map, slice_get, slice_index_or, refl, sym, ap, subst, inl, inr, arith}
use Rattle.std.proofs.Math.ListN.{get_or-map}
use Rattle.std.proofs.lemmas.List.{length-map}
use Rattle.hx_base.specs.FileWords.{IsFileWord}
use Rattle.hx_base.specs.FirstRefusals.{MayStandInPlace}
use Rattle.hx_base.specs.Limits.{FitsLimits, most_inputs}
use Rattle.hx_base.specs.Names.{IsName}
use Rattle.hx_base.specs.declared.pixel.Pixel.{Pixel}
use Rattle.hx_base.specs.declared.refusal.Refusal.{Refusal}
use Rattle.hx_base.specs.declared.refusal.Refusal.TheVariants as refusal
use Rattle.hx_base.specs.declared.settings.Settings.{Settings}
use Rattle.hx_inputs.specs.Sources.{SameSources, Tell}
use Rattle.hx_journal.specs.Headers.{IsHeader, header_of, heading_of}
use Rattle.hx_journal.specs.Journal.{Opened}
use Rattle.hx_outside.specs.Disk.{DiskMembers}
use Rattle.hx_outside.specs.Folders.{Folder}
use Rattle.hx_outside.specs.Faults.{Rose}
use Rattle.hx_outside.specs.Sources.{SameSource, SourceMembers}
use Rattle.hx_base.specs.declared.task.Task.{Task}
use Rattle.hx_book.specs.declared.answers.Kept.{Kept}
use Rattle.hx_book.specs.Tasks.{InputData, count_of}
use Rattle.hx_book.specs.Resumable.{done_of, header_bytes}
use Rattle.hx_book.specs.Books.{AreBack, AreNamed, IsBackCause, IsFound, IsFoundCause, IsHome, IsKept, IsLengthsCause, IsOpening, IsScheduled, ShowsWhy, JobMembers, Origin, input_of, job_of, origin_of, told_bytes}
use Rattle.hx_book.proofs.Homes.{slice_get_within}

module _ {Src : Type 0} (source : SourceMembers Src) where
  abbrev bytes_of : List Src → List (List ℕ)
  bytes_of xs = map (λ s. told_bytes (source.told s)) xs

  two : {X : Type 0} (a b : X) (xs ys : List X) → a ≡ b → xs ≡ ys → a ∷ xs ≡ b ∷ ys
  two a b xs ys first rest = λ i. first i ∷ rest i

  some_told : (o : Option (List ℕ)) → IsSome o → o ≡ Some (told_bytes o)
  some_told None some = absurd (cc some)
  some_told (Some bytes) some = refl

  tells : (xs : List Src) → ((n : ℕ) (origin : Origin) → slice_get (map (origin_of source) xs) n ≡ Some origin → IsSome origin.told) → map source.told xs ≡ map Some (bytes_of xs)
  tells [] h = refl
  tells (x ∷ xs) h = two (source.told x) (Some (told_bytes (source.told x))) (map source.told xs) (map Some (bytes_of xs)) (some_told (source.told x) (h 0 (origin_of source x) refl)) (tells xs (λ n. h (suc n)))

  bytes_are : (xs : List Src) (bytes : List (List ℕ)) → map source.told xs ≡ map Some bytes → bytes ≡ bytes_of xs
  bytes_are [] [] e = refl
  bytes_are [] (b ∷ bs) e = absurd (cc e)
  bytes_are (x ∷ xs) [] e = absurd (cc e)
  bytes_are (x ∷ xs) (b ∷ bs) e =
      let first : source.told x ≡ Some b = cc e in
      let rest : map source.told xs ≡ map (λ (y : List ℕ). Some y) bs = cc e in
      two b (told_bytes (source.told x)) bs (bytes_of xs) (sym (ap told_bytes first)) (bytes_are xs bs rest)

  lens_are : (xs : List Src) → map length (bytes_of xs) ≡ map (λ (input : InputData). length input.bytes) (map input_of (map (origin_of source) xs))
  lens_are [] = refl
  lens_are (x ∷ xs) = ap (λ (l : List ℕ). length (told_bytes (source.told x)) ∷ l) (lens_are xs)

  names_are : (xs : List Src) → map source.label xs ≡ map (λ (input : InputData). input.name) (map input_of (map (origin_of source) xs))
  names_are [] = refl
  names_are (x ∷ xs) = ap (λ (l : List (List ℕ)). source.label x ∷ l) (names_are xs)

  slice_get_map : {X : Type 0} (f : Src → X) (xs : List Src) (n : ℕ) (e : Src) → n < length xs → slice_get (map f xs) n ≡ Some (f (slice_index_or xs n e))
  slice_get_map f [] n e less = absurd (omega (arith, less))
  slice_get_map f (x ∷ xs) zero e less = refl
  slice_get_map f (x ∷ xs) (suc n) e less = slice_get_map f xs n e (omega (arith, less))

slice_get_is : {X : Type 0} (xs : List X) (n : ℕ) (x e : X) → slice_get xs n ≡ Some x → slice_index_or xs n e ≡ x
slice_get_is [] n x e is = absurd (cc is)
slice_get_is (y ∷ ys) zero x e is = cc is
slice_get_is (y ∷ ys) (suc n) x e is = slice_get_is ys n x e is

slice_get_there : {X : Type 0} (xs : List X) (n : ℕ) → n < length xs → (x : X) × (slice_get xs n ≡ Some x)
slice_get_there [] n less = absurd (omega (arith, less))
slice_get_there (y ∷ ys) zero less = (y, refl)
slice_get_there (y ∷ ys) (suc n) less = slice_get_there ys n (omega (arith, less))

no_none : {X : Type 0} (xs : List X) (n : ℕ) → slice_get (map Some xs) n ≡ Some None → ⊥
no_none [] n e = cc e
no_none (y ∷ ys) zero e = cc e
no_none (y ∷ ys) (suc n) e = no_none ys n e

some_was : {X : Type 0} (xs : List X) (n : ℕ) (x : X) → slice_get (map Some xs) n ≡ Some (Some x) → slice_get xs n ≡ Some x
some_was [] n x e = absurd (cc e)
some_was (y ∷ ys) zero x e = cc e
some_was (y ∷ ys) (suc n) x e = some_was ys n x e

module _ {Src S : Type 0} (j : JobMembers) (source : SourceMembers Src) (d : DiskMembers S) (settings : Settings) (before : List Src) (store : S) (n : AreNamed j source d settings before store) where
  -- the header of the bytes that the inputs tell is the job's
  pub header_told : (bytes : List (List ℕ)) → Tell source before bytes → header_of (heading_of settings (map length bytes) (map source.label before)) ≡ header_bytes (job_of j)
  header_told bytes tell =
      let own : header_of (heading_of settings (map length bytes) (map source.label before)) ≡ header_of (heading_of settings (map (λ (input : InputData). length input.bytes) (map input_of (map (origin_of source) before))) (map (λ (input : InputData). input.name) (map input_of (map (origin_of source) before)))) =
      λ i. header_of (heading_of settings ((ap (map (length {A = ℕ})) (bytes_are source before bytes tell) ∙ lens_are source before) i) (names_are source before i)) in
      let job : header_of (heading_of settings (map (λ (input : InputData). length input.bytes) (map input_of (map (origin_of source) before))) (map (λ (input : InputData). input.name) (map input_of (map (origin_of source) before)))) ≡ header_bytes (job_of j) =
      λ i. header_of (heading_of (sym n.settings_are i) (map (λ (input : InputData). length input.bytes) (map input_of (sym n.origins_are i))) (map (λ (input : InputData). input.name) (map input_of (sym n.origins_are i)))) in
      own ∙ job

  pub header_named : j.premises → (header : List ℕ)
      → ((bytes : List (List ℕ)) → Tell source before bytes → header ≡ header_of (heading_of settings (map length bytes) (map source.label before))) → header ≡ header_bytes (job_of j)
  header_named p header made =
      let told = subst (λ (os : List Origin). (k : ℕ) (origin : Origin) → slice_get os k ≡ Some origin → IsSome origin.told) n.origins_are (n.told p) in
      made (bytes_of source before) (tells source before told) ∙ header_told (bytes_of source before) (tells source before told)

  pub named_count : length j.origins ≡ length before
  named_count = ap (length {A = Origin}) n.origins_are ∙ length-map before (origin_of source)

  module _ (words : All IsFileWord (map source.label before)) (now : List Src) (same : SameSources source before now) where
    origin_at : (k : ℕ) (e : Src) → k < length before → slice_get j.origins k ≡ Some (origin_of source (slice_index_or before k e))
    origin_at k e less = subst (λ (os : List Origin). slice_get os k ≡ Some (origin_of source (slice_index_or before k e))) (sym n.origins_are) (slice_get_map source (origin_of source) before k e less)

    -- each source is that of its input
    pub named_home : (k : ℕ) (s : Src) → slice_get now k ≡ Some s → IsHome j source k s
    named_home k s at =
        let within = slice_get_within now k s at in
        let less : k < length before = let c = same.count in omega (arith, within, c) in
        let kept : SameSource source (slice_index_or before k s) s = subst (SameSource source (slice_index_or before k s)) (slice_get_is now k s s at) (same.each k s less) in
        record {
          origin = origin_of source (slice_index_or before k s);
          there = origin_at k s less;
          name = kept.name;
          bytes = kept.bytes;
          later = kept.later;
          word = subst IsFileWord (get_or-map source.label before k s) (words k (source.label s) (omega (arith, less, length-map before source.label)));
        }

    pub named_back : AreBack j source now
    named_back = record { count = same.count ∙ sym named_count; each = named_home }

    -- why the inputs gave no header
    pub lengths_back : (faults : ℕ) (r : Refusal) → IsLengthsCause source before now r → IsBackCause j source now faults r
    lengths_back faults (refusal.InputFault input) (less, rose) =
        let (s, at) = slice_get_there now input (let c = same.count in omega (arith, less, c)) in (
          s,
          origin_of source (slice_index_or before input s),
          at,
          origin_at input s less,
          subst (λ (x : Src). Rose (source.faults (slice_index_or before input s)) (source.faults x)) (slice_get_is now input s s at) (rose s),
        )
    lengths_back faults (refusal.TooMany what found limit) (a, b, c, (input, less, long)) =
        let (s, at) = slice_get_there before input less in
        (a, b, c, (input, origin_of source (slice_index_or before input s), origin_at input s less, long s))
    lengths_back faults refusal.Memory cause = tt
    lengths_back faults refusal.Usage cause = absurd cause
    lengths_back faults (refusal.BadInput i r w) cause = absurd cause
    lengths_back faults (refusal.Overfull p k) cause = absurd cause
    lengths_back faults (refusal.TooNarrow l r g) cause = absurd cause
    lengths_back faults refusal.StoreFault cause = absurd cause
    lengths_back faults refusal.SinkFault cause = absurd cause
    lengths_back faults (refusal.NoCatalogue s) cause = absurd cause
    lengths_back faults (refusal.OtherJob p k a) cause = absurd cause
    lengths_back faults (refusal.Damaged s f p) cause = absurd cause
    lengths_back faults (refusal.InputChanged i p k f) cause = absurd cause
    lengths_back faults refusal.NameTaken cause = absurd cause

    -- and why the work files opened no book
    pub found_back : (faults : ℕ) (r : Refusal) → IsFoundCause j faults r → IsBackCause j source now faults r
    found_back faults refusal.NameTaken cause = cause
    found_back faults (refusal.OtherJob p k a) cause = cause
    found_back faults (refusal.Damaged s f p) cause = cause
    found_back faults refusal.StoreFault cause = cause
    found_back faults refusal.Memory cause = tt
    found_back faults refusal.Usage cause = absurd cause
    found_back faults (refusal.BadInput i r w) cause = absurd cause
    found_back faults (refusal.Overfull p k) cause = absurd cause
    found_back faults (refusal.TooNarrow l r g) cause = absurd cause
    found_back faults (refusal.InputFault i) cause = absurd cause
    found_back faults refusal.SinkFault cause = absurd cause
    found_back faults (refusal.NoCatalogue s) cause = absurd cause
    found_back faults (refusal.InputChanged i p k f) cause = absurd cause
    found_back faults (refusal.TooMany w f l) cause = absurd cause

    -- a book that opens keeps its type
    pub began_kept : (after : S) (journal : Opened) (parts : List Pixel) (partitions stage from : ℕ) (flags : _) → IsOpening j d after
        → IsFound j d after (length now) journal parts partitions stage from flags
        → 1 ≤ length before → length before ≤ most_inputs → FitsLimits settings → IsName settings.name → (j.premises → IsHeader (header_bytes (job_of j)))
        → IsKept j source d (record { settings = settings; homes = map Some now; store = after; journal = journal; parts = parts; partitions = partitions; stage = stage; from = from; flags = flags; held = None; kept = None; first = None })
    began_kept after journal parts partitions stage from flags o found some few limits name heading = record {
      fitting = record {
        settings_are = sym n.settings_are;
        name = subst (λ (x : Settings). IsName x.name) (sym n.settings_are) name;
        limits = subst FitsLimits (sym n.settings_are) limits;
        count = length-map now Some ∙ same.count ∙ sym named_count;
        some = let c = named_count in omega (arith, some, c);
        few = let c = named_count in omega (arith, few, c);
        not_many = found.not_many;
        heading = heading;
      };
      homes = λ k s at. named_home k s (some_was now k s at);
      away = λ k at. absurd (no_none now k at);
      gone = λ k (e : None ≡ Some k). absurd (cc e);
      with_tells = o.with_tells;
      disk = o.disk;
      good = o.good;
      count = o.count;
      sound = λ e. record {
        scheduled = subst (λ (i : ℕ). IsScheduled i partitions (done_of journal.records) stage from flags None None) (sym (length-map now Some)) found.scheduled;
        planned = found.planned;
        parts_are = found.parts_are;
        file_is = found.file_is;
        header_is = found.header_is;
        rest = found.rest;
      };
      first_is = tt;
      kept_is = tt;
    }

pub same_refl : {Src : Type 0} (source : SourceMembers Src) (xs : List Src) → SameSources source xs xs
same_refl source xs = record { count = refl; each = λ i e less. record { bytes = refl; name = refl; later = omega arith } }

-- a refusal that says how long an input is comes first of the lengths
pub long_shown : (r : Refusal) (first : Option Refusal) (what found limit : ℕ) → MayStandInPlace r ⊎ (Some r ≡ first) → r ≡ refusal.TooMany what found limit → first ≡ Some r
long_shown r first what found limit (inl free) e = absurd (let f = subst MayStandInPlace e free in f)
long_shown r first what found limit (inr is) e = sym is

pub found_not_long : (j : JobMembers) (faults : ℕ) (r : Refusal) (what found limit : ℕ) → IsFoundCause j faults r → r ≡ refusal.TooMany what found limit → ⊥
found_not_long j faults r what found limit cause e = subst (IsFoundCause j faults) e cause

-- a stage that was found has a ready task, or is the end
pub found_ready : (inputs partitions stage from : ℕ) (done : List Task) (flags : List Bool) → IsScheduled inputs partitions done stage from flags None None → (stage ≡ 9) ⊎ (from < count_of inputs partitions stage)
found_ready inputs partitions stage from done flags h = by h.unfinished
  where
    none_held : IsSome {T = ℕ} None → ⊥
    none_held e = cc e

    none_kept : IsSome {T = Kept} None → ⊥
    none_kept e = cc e

    by : (stage ≡ 9) ⊎ (from < count_of inputs partitions stage) ⊎ IsSome {T = ℕ} None ⊎ IsSome {T = Kept} None → (stage ≡ 9) ⊎ (from < count_of inputs partitions stage)
    by (inl nine) = inl nine
    by (inr (inl ready)) = inr ready
    by (inr (inr (inl held))) = absurd (none_held held)
    by (inr (inr (inr kept))) = absurd (none_kept kept)

-- lengths show nothing of a folder
pub lengths_shows : {Src : Type 0} (source : SourceMembers Src) (before now : List Src) (name header : List ℕ) (f : Folder) (r : Refusal) → IsLengthsCause source before now r → ShowsWhy name header f r
lengths_shows source before now name header f refusal.NameTaken cause = absurd cause
lengths_shows source before now name header f (refusal.OtherJob p k a) cause = absurd cause
lengths_shows source before now name header f (refusal.Damaged s g p) cause = absurd cause
lengths_shows source before now name header f refusal.StoreFault cause = tt
lengths_shows source before now name header f refusal.Memory cause = tt
lengths_shows source before now name header f refusal.Usage cause = tt
lengths_shows source before now name header f (refusal.BadInput i r w) cause = tt
lengths_shows source before now name header f (refusal.Overfull p k) cause = tt
lengths_shows source before now name header f (refusal.TooNarrow l r g) cause = tt
lengths_shows source before now name header f (refusal.InputFault i) cause = tt
lengths_shows source before now name header f refusal.SinkFault cause = tt
lengths_shows source before now name header f (refusal.NoCatalogue s) cause = tt
lengths_shows source before now name header f (refusal.InputChanged i p k g) cause = tt
lengths_shows source before now name header f (refusal.TooMany w g l) cause = tt
