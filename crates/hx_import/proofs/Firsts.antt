-- What an import answers first: what its folder alone refuses, and what is refused of its inputs and of all rows.
use Rattle.std.proofs.Common.{◌≡◌, ◌≢◌, ◌<◌, ◌≤◌, ◌+◌, ◌∙◌, ◌∷◌, ◌++◌, ◌⊎◌, ℕ, zero, suc, List, [], Some, None, Option, Ok, Err, IfSome, IsSome, append_assoc, length, map, nat_lt, slice_get, take, true, refl, sym, ap, subst, arith, inl, inr}
use Rattle.std.specs.Option.{option_map}
use Rattle.std.proofs.lemmas.Bool.{cases_lt, cases_order, le-ltb, lt-ltb}
use Rattle.std.proofs.lemmas.List.{length-map}
use Rattle.std.proofs.lemmas.Option.{slice_get-map}
use Rattle.hx_align.specs.Refusals.{IsCutRefusal}
use Rattle.hx_align.specs.declared.plan.PlanRow.{PlanRow}
use Rattle.hx_base.specs.Limits.{above, most_bytes, most_partitions}
use Rattle.hx_base.specs.Pixels.{count_in}
use Rattle.hx_base.specs.declared.refusal.Refusal.{Refusal}
use Rattle.hx_base.specs.declared.refusal.Refusal.TheVariants as refusal
use Rattle.hx_base.specs.declared.row.Row.{Row}
use Rattle.hx_base.specs.declared.settings.Settings.{Settings}
use Rattle.hx_base.specs.declared.task.Task.{Task}
use Rattle.hx_inputs.proofs.InTurn.{both_none, good_rows}
use Rattle.hx_inputs.specs.Inputs.{bad_input, too_long}
use Rattle.hx_inputs.specs.Sources.{Tell}
use Rattle.hx_journal.specs.Differences.{DifferAt}
use Rattle.hx_journal.specs.Journal.{blocks, front}
use Rattle.hx_journal.specs.declared.record.Record.{Record}
use Rattle.hx_outside.specs.Disk.{DiskMembers}
use Rattle.hx_outside.specs.Folders.{Folder}
use Rattle.hx_outside.specs.Sources.{SourceMembers}
use Rattle.hx_rows.specs.Reading.{rows_of}
use Rattle.hx_align.specs.Plans.{pixels_of}
use Rattle.hx_book.specs.Books.{AreKept, HasOther, IsBackCause, IsBadInput, IsBarred, IsOutsideCause, IsTaken as IsHeld, IsTaskCause, JobMembers, Origin, ShowsWhy, TakesInput, input_of, job_of, origin_of, told_bytes}
use Rattle.hx_book.specs.Resumable.{IsResumable, header_bytes}
use Rattle.hx_book.specs.Tasks.{AreAllRows, InputData, IsCut, JobData, contents_of, names_of, task}
use Rattle.hx_book.specs.Values.{IsFileOf, IsMapped, IsSplitOf, IsValue, OfCut}
use Rattle.hx_import.specs.Importing.{GoesOn, IsRun, IsRunCause, members_of}
use Rattle.hx_import.specs.Imports.{CanGoOn, HasOtherHeader, IsDecidedBy, IsEarly, IsFolderRefusal, IsImportRefusal, IsOfFolder, IsTaken, MayStandOverFolder, ShownBy, job_of as asked_job}
use Rattle.hx_import.proofs.Ran.{are_named, job_same}

-- ---- texts that differ

-- bytes of two beginnings of one text are the same
one_byte : (a b : List ℕ) (place x y : ℕ) (more rest : List ℕ) → a ++ more ≡ b ++ rest → slice_get a place ≡ Some x → slice_get b place ≡ Some y → x ≡ y
one_byte [] b place x y more rest same is_x is_y = cc is_x
one_byte (v ∷ a) [] place x y more rest same is_x is_y = cc is_y
one_byte (v ∷ a) (w ∷ b) zero x y more rest same is_x is_y = let first : v ≡ w = cc same in cc (is_x, is_y, first)
one_byte (v ∷ a) (w ∷ b) (suc place) x y more rest same is_x is_y = one_byte a b place x y more rest (cc same) is_x is_y

-- a byte before the place up to which two texts are the same
byte_before : (a b : List ℕ) (n place x : ℕ) → take n a ≡ take n b → place < n → slice_get b place ≡ Some x → slice_get a place ≡ Some x
byte_before a b zero place x same less is = absurd (omega (arith, less))
byte_before a [] (suc n) place x same less is = cc is
byte_before [] (w ∷ b) (suc n) place x same less is = cc same
byte_before (v ∷ a) (w ∷ b) (suc n) zero x same less is = let first : v ≡ w = cc same in cc (is, first)
byte_before (v ∷ a) (w ∷ b) (suc n) (suc place) x same less is = byte_before a b n place x (cc same) (omega (arith, less)) is

module _ (a b own x y : List ℕ) (p k v q l w : ℕ) (same : a ++ x ≡ b ++ y) (one : DifferAt a own p k v) (other : DifferAt b own q l w) where
  -- beginnings of one text first differ from another at one place
  one_place : p ≡ q
  one_place = elim (cases_order p q) [
    | inl is ↦ is
    | inr (inl less) ↦ absurd (one.apart (one_byte a b p k v x y same one.first (byte_before b own q p v other.before less one.second)))
    | inr (inr more) ↦ absurd (other.apart (one_byte b a q l w y x (sym same) other.first (byte_before a own p q w one.before more other.second)))
  ]

  one_difference : (p ≡ q) × (k ≡ l) × (v ≡ w)
  one_difference =
      let here = one_place in
      let kept : slice_get b p ≡ Some l = rw here other.first in
      let asked : slice_get own p ≡ Some w = rw here other.second in
      (here, one_byte a b p k l x y same one.first kept, cc (one.second, asked))

-- ---- the folder

some_there : {X : Type 0} (o : Option X) → IsSome o → o ≡ None → ⊥
some_there None some none = cc some
some_there (Some x) some none = cc none

there_some : {X : Type 0} (o : Option X) → o ≢ None → IsSome o
there_some None apart = absurd (apart refl)
there_some (Some x) apart = refl

none_some : {X : Type 0} (o : Option X) (x : X) → o ≡ None → o ≡ Some x → ⊥
none_some o x none some = cc (none, some)

module _ (job : JobData) (f : Folder) where
  abbrev own : List ℕ
  own = header_bytes job

  -- a name is taken, and a journal is another job's, in this crate's words
  taken_here : IsHeld job.settings.name f → IsTaken job.settings.name f
  taken_here held = record { properties = some_there _ held.properties; no_journal = held.no_journal }

  other_here : (place kept asked : ℕ) (other : HasOther job.settings.name own f) → DifferAt other.kept own place kept asked → HasOtherHeader job f place kept asked
  other_here place kept asked other differ = record {
    header = other.kept;
    rest = _;
    heading = other.heading;
    begins = other.stands.is ∙ ap (λ (x : List ℕ). Some x) (append_assoc other.kept _ _);
    differs = differ;
  }

  -- a folder that refuses opens no book
  barred_by : (r : Refusal) (records : List Record) → IsFolderRefusal job f (Some r) → AreKept job f records → IsBarred job.settings.name own f
  barred_by refusal.NameTaken records taken kept = inl (record { no_journal = taken.no_journal; properties = there_some _ taken.properties })
  barred_by (refusal.OtherJob place byte asked) records other (inr (fresh, none)) = absurd (none_some _ _ fresh.no_journal other.begins)
  barred_by (refusal.OtherJob place byte asked) records other (inl (header, heading, stands)) =
      let both : other.header ++ other.rest ≡ front header records ++ (stands.gate ∷ stands.rest) = cc (other.begins, stands.is) in
      let text : other.header ++ other.rest ≡ header ++ (blocks records ++ (stands.gate ∷ stands.rest)) = both ∙ append_assoc header (blocks records) (stands.gate ∷ stands.rest) in
      inr (record {
        kept = header;
        heading = heading;
        records = records;
        stands = stands;
        apart = λ same. other.differs.apart (one_byte other.header header place byte asked other.rest _ text other.differs.first (rw same other.differs.second));
      })
  barred_by _ records right kept = absurd right

  folder_early : (r : Refusal) → IsOfFolder r → IsEarly r
  folder_early refusal.NameTaken of = tt
  folder_early (refusal.OtherJob place kept asked) of = tt
  folder_early (refusal.NoCatalogue side) of = tt
  folder_early _ of = absurd of

  none_late : (answer : Option Refusal) (r : Refusal) → IfSome answer (λ x. IsEarly x → ⊥) → answer ≡ Some r → IsOfFolder r → ⊥
  none_late None r late is of = cc is
  none_late (Some x) r late is of =
      let same : x ≡ r = cc is in
      late (folder_early x (rw same of))

  -- what is answered once a book was opened
  pub opened_decided : (answer : Option Refusal) (records : List Record) → (IsBarred job.settings.name own f → ⊥) → AreKept job f records → IfSome answer (λ x. IsEarly x → ⊥) → IsDecidedBy (IsFolderRefusal job f) answer
  opened_decided answer records free kept late = record {
    only = λ r is of. absurd (none_late answer r late is of);
    always = λ r right. absurd (free (barred_by r records right kept));
  }

-- and where it wasn't
module _ {Src : Type 0} (j : JobMembers) (source : SourceMembers Src) (inputs : List Src) (faults : ℕ) (f : Folder) where
  abbrev job : JobData
  job = job_of j

  only_of : (r : Refusal) → IsBackCause j source inputs faults r → ShowsWhy j.settings.name (header_bytes job) f r → IsOfFolder r → IsFolderRefusal job f (Some r)
  only_of refusal.NameTaken cause shows of = taken_here job f shows
  only_of (refusal.OtherJob place kept asked) cause shows of = other_here job f place kept asked shows.0 shows.1
  only_of (refusal.NoCatalogue side) cause shows of = absurd cause
  only_of _ cause shows of = absurd of

  always_of : (r first : Refusal) → IsBackCause j source inputs faults r → ((what found limit : ℕ) → r ≡ refusal.TooMany what found limit → ⊥) → ShowsWhy j.settings.name (header_bytes job) f r
      → IsFolderRefusal job f (Some first) → (Some r ≡ Some first) ⊎ MayStandOverFolder r
  always_of (refusal.TooMany what found limit) first cause short shows right = absurd (short what found limit refl)
  always_of refusal.NameTaken refusal.NameTaken cause short shows right = inl refl
  always_of refusal.NameTaken (refusal.OtherJob place kept asked) cause short shows right = absurd (none_some _ _ shows.no_journal right.begins)
  always_of refusal.NameTaken _ cause short shows right = absurd right
  always_of (refusal.OtherJob place kept asked) refusal.NameTaken cause short shows right = absurd (none_some _ _ right.no_journal shows.0.stands.is)
  always_of (refusal.OtherJob place kept asked) (refusal.OtherJob p k a) cause short shows right =
      let here = other_here job f place kept asked shows.0 shows.1 in
      let text : here.header ++ here.rest ≡ right.header ++ right.rest = cc (here.begins, right.begins) in
      let one = one_difference here.header right.header (header_bytes job) here.rest right.rest place kept asked p k a text here.differs right.differs in
      inl (rw (one.0, one.1, one.2) refl)
  always_of (refusal.OtherJob place kept asked) _ cause short shows right = absurd right
  always_of (refusal.Damaged side file place) first cause short shows right = inr tt
  always_of refusal.StoreFault first cause short shows right = inr tt
  always_of (refusal.InputFault input) first cause short shows right = inr tt
  always_of refusal.Memory first cause short shows right = inr tt
  always_of _ first cause short shows right = absurd cause

  same_of : (r x : Refusal) → Some r ≡ Some x → r ≡ x
  same_of r x is = cc is

  pub refused_decided : (r : Refusal) → IsBackCause j source inputs faults r → ((what found limit : ℕ) → r ≡ refusal.TooMany what found limit → ⊥) → ShowsWhy j.settings.name (header_bytes job) f r
      → IsDecidedBy (IsFolderRefusal job f) (Some r)
  refused_decided r cause short shows = record {
    only = λ x is of.
        let same = same_of r x is in
        rw (← same) (only_of r cause shows (rw same of));
    always = λ first right. always_of r first cause short shows right;
  }

-- where no input is too long, no refusal says so
pub not_long : (bytes : List (List ℕ)) (r : Refusal) → ((what found limit : ℕ) → r ≡ refusal.TooMany what found limit → too_long bytes ≡ Some r) → too_long bytes ≡ None → (what found limit : ℕ) → r ≡ refusal.TooMany what found limit → ⊥
not_long bytes r long short what found limit is = none_some _ _ short (long what found limit is)

-- ---- the inputs and all rows

not_above : (what limit found : ℕ) → found ≤ limit → None ≡ above what limit found
not_above what limit found few = rw (le-ltb limit found few) refl

below_limit : (what limit found : ℕ) → above what limit found ≡ None → found ≤ limit
below_limit what limit found none = elim (cases_lt limit found) [
  | inl more ↦ let is : nat_lt limit found ≡ true = lt-ltb limit found more in cc (rw is at none)
  | inr few ↦ few
]

-- where no input is too long, none has more bytes than an input may have
short_told : (o : Option (List ℕ)) (b : List ℕ) (found : ℕ) → o ≡ Some b → IfSome o (λ x. length x ≡ found) → length b ≡ found
short_told None b found is long = cc is
short_told (Some x) b found is long = let same : x ≡ b = cc is in rw same at long

short_at : {Src : Type 0} (source : SourceMembers Src) (inputs : List Src) (bytes : List (List ℕ)) → Tell source inputs bytes → too_long bytes ≡ None
    → (n found : ℕ) (origin : Origin) → slice_get (map (origin_of source) inputs) n ≡ Some origin → IfSome origin.told (λ b. length b ≡ found) → found ≤ most_bytes
short_at source [] bytes tell short n found origin at long = absurd (cc at)
short_at source (s ∷ inputs) [] tell short n found origin at long = absurd (cc tell)
short_at source (s ∷ inputs) (b ∷ bytes) tell short zero found origin at long =
    let first : source.told s ≡ Some b = cc tell in
    let is : origin_of source s ≡ origin = cc at in
    let own = short_told (source.told s) b found first (subst (λ (o : Origin). IfSome o.told (λ x. length x ≡ found)) (sym is) long) in
    let fits = below_limit 2 most_bytes (length b) (both_none (above 2 most_bytes (length b)) (too_long bytes) short).0 in
    rw (← own) fits
short_at source (s ∷ inputs) (b ∷ bytes) tell short (suc n) found origin at long =
    let more : map source.told inputs ≡ map (λ (x : List ℕ). Some x) bytes = cc tell in
    short_at source inputs bytes more (both_none (above 2 most_bytes (length b)) (too_long bytes) short).1 n found origin at long

-- an input of a number can be read
abbrev IsReadAt : List InputData → ℕ → Type 0
IsReadAt inputs n = (x : InputData) × (rows : List Row) × (slice_get inputs n ≡ Some x) × (rows_of x.name x.bytes ≡ Ok rows)

-- an input that can't be read, behind such that can, is the first bad one
bad_is : (inputs : List InputData) (start n row why : ℕ) (x : InputData) → slice_get inputs n ≡ Some x → rows_of x.name x.bytes ≡ Err (row, why) → ((m : ℕ) → m < n → IsReadAt inputs m)
    → bad_input start (map (λ (i : InputData). i.name) inputs) (map (λ (i : InputData). i.bytes) inputs) ≡ Some (refusal.BadInput (start + n) row why)
bad_is [] start n row why x at bad each = cc at
bad_is (y ∷ inputs) start zero row why x at bad each =
    let same : y ≡ x = cc at in
    let here : rows_of y.name y.bytes ≡ Err (row, why) = subst (λ (i : InputData). rows_of i.name i.bytes ≡ Err (row, why)) (sym same) bad in
    let place : start ≡ start + 0 = omega arith in
    rw here (ap (λ (k : ℕ). Some (refusal.BadInput k row why)) place)
bad_is (y ∷ inputs) start (suc n) row why x at bad each =
    let (z, rows, there, read) = each zero (omega arith) in
    let same : y ≡ z = cc there in
    let here : rows_of y.name y.bytes ≡ Ok rows = subst (λ (i : InputData). rows_of i.name i.bytes ≡ Ok rows) (sym same) read in
    let later = bad_is inputs (start + 1) n row why x at bad (λ m less. each (suc m) (omega (arith, less))) in
    let place : start + 1 + n ≡ start + suc n = omega arith in
    rw here (later ∙ ap (λ (k : ℕ). Some (refusal.BadInput k row why)) place)

-- a value of a task that takes an input tells the input's rows
value_read : (job : JobData) (kind n : ℕ) (bytes : List ℕ) → TakesInput kind → IsValue job (task kind n) bytes → IsReadAt job.inputs n
unfolding IsFileOf
value_read job kind n bytes (inl is) value = by (subst (λ (k : ℕ). IsValue job (task k n) bytes) is value)
  where
    by : IsMapped job n bytes → IsReadAt job.inputs n
    by v = (v.are.input, v.rows, v.are.there, v.are.read)
value_read job kind n bytes (inr is) value = by (subst (λ (k : ℕ). IsValue job (task k n) bytes) is value)
  where
    by : OfCut job (λ all plan. IsSplitOf job n (pixels_of plan) bytes) → IsReadAt job.inputs n
    by v = (v.holds.are.input, v.holds.rows, v.holds.are.there, v.holds.are.read)

-- a folder where a job can go on refuses nothing
open_folder : (job : JobData) (f : Folder) → IsResumable job f → IsFolderRefusal job f None
open_folder job f (inl fresh) = (λ taken. taken.properties fresh.no_properties, λ place kept asked other. none_some _ _ fresh.no_journal other.begins)
open_folder job f (inr (records, under)) = (λ taken. none_some _ _ taken.no_journal under.journal_is.is, apart)
  where
    apart : (place kept asked : ℕ) → HasOtherHeader job f place kept asked → ⊥
    apart place kept asked other =
        let both : other.header ++ other.rest ≡ front (header_bytes job) records ++ (under.journal_is.gate ∷ under.journal_is.rest) = cc (other.begins, under.journal_is.is) in
        let text : other.header ++ other.rest ≡ header_bytes job ++ (blocks records ++ (under.journal_is.gate ∷ under.journal_is.rest)) = both ∙ append_assoc (header_bytes job) (blocks records) (under.journal_is.gate ∷ under.journal_is.rest) in
        other.differs.apart (one_byte other.header (header_bytes job) place kept asked other.rest _ text other.differs.first other.differs.second)

module _ (job : JobData) (f : Folder) (goes : IsResumable job f) where
  -- what is refused of all rows, where they can be read
  rows_first : (rows : List Row) (first : Option Refusal) → AreAllRows job rows → IsCutRefusal (λ pixel. count_in pixel rows) job.settings.lowest job.settings.highest job.settings.threshold first → IsImportRefusal job f first
  rows_first rows first are cut =
      let good = good_rows 0 (names_of job) (contents_of job) rows are in
      (None, open_folder job f goes, rw good (rows, are, cut))

  bad_first : (r : Refusal) → bad_input 0 (names_of job) (contents_of job) ≡ Some r → IsImportRefusal job f (Some r)
  bad_first r bad = (None, open_folder job f goes, rw bad refl)

  whole_first : (rows : List Row) (plan : List PlanRow) → IsCut job rows plan → IsImportRefusal job f None
  whole_first rows plan cut =
      let few : length (pixels_of plan) ≤ most_partitions = omega (arith, cut.planned.few, length-map plan (λ (row : PlanRow). row.pixel)) in
      rows_first rows None cut.read (inr (cut.planned.fits, pixels_of plan, cut.planned.partitions.partitions, not_above 3 most_partitions (length (pixels_of plan)) few))

module _ {Src S : Type 0} (source : SourceMembers Src) (d : DiskMembers S) (settings : Settings) (inputs : List Src) (store : S) where
  abbrev j : JobMembers
  j = members_of source d settings inputs store

  module _ (bytes : List (List ℕ)) (tell : Tell source inputs bytes) (short : too_long bytes ≡ None) (can : CanGoOn d store (asked_job settings (map source.label inputs) bytes)) where
    goes : GoesOn source d settings inputs store
    goes = (bytes, tell, can)

    abbrev IsFirst : Option Refusal → Type 0
    IsFirst = IsImportRefusal (job_of j) (d.reads store)

    resumable : IsResumable (job_of j) (d.reads store)
    resumable = (are_named source d settings inputs store).resumable goes (d.reads store) (d.reads_now store can.told)

    bad_told : (o : Option (List ℕ)) (label : List ℕ) (row why : ℕ) → IsSome o → IfSome o (λ b. rows_of label b ≡ Err (row, why)) → rows_of label (told_bytes o) ≡ Err (row, why)
    bad_told None label row why some bad = cc some
    bad_told (Some b) label row why some bad = bad

    bad_task : (t : Task) (row why : ℕ) → TakesInput t.kind → IsBadInput j t.number row why → (j.premises → (n : ℕ) → n < t.number → (b : List ℕ) × IsValue (job_of j) (task t.kind n) b)
        → bad_input 0 (names_of (job_of j)) (contents_of (job_of j)) ≡ Some (refusal.BadInput t.number row why)
    bad_task t row why takes bad earlier =
        let told = (are_named source d settings inputs store).told goes t.number bad.origin bad.there in
        let at : slice_get (map input_of j.origins) t.number ≡ Some (input_of bad.origin) = slice_get-map input_of j.origins t.number ∙ ap (option_map input_of) bad.there in
        let place : 0 + t.number ≡ t.number = omega arith in
        bad_is (job_of j).inputs 0 t.number row why (input_of bad.origin) at (bad_told bad.origin.told bad.origin.label row why told bad.fault)
        (λ m less. let (b, value) = earlier goes m less in value_read (job_of j) t.kind m b takes value)
        ∙ ap (λ (k : ℕ). Some (refusal.BadInput k row why)) place

    outside_first : (IsAt : ℕ → Src → Type 0) (faults : ℕ) (r : Refusal) → IsOutsideCause j source IsAt faults r → MayStandOverFolder r ⊎ IsFirst (Some r)
    outside_first IsAt faults refusal.StoreFault h = inl tt
    outside_first IsAt faults (refusal.InputFault input) h = inl tt
    outside_first IsAt faults refusal.Memory h = inl tt
    outside_first IsAt faults _ h = absurd h

    back_first : (now : List Src) (faults : ℕ) (r : Refusal) → IsBackCause j source now faults r → MayStandOverFolder r ⊎ IsFirst (Some r)
    back_first now faults (refusal.TooMany what found limit) (two, most, more, (number, origin, there, long)) =
        let few = short_at source inputs bytes tell short number found origin there long in
        absurd (omega (arith, few, most, more))
    back_first now faults refusal.NameTaken h = absurd (h goes)
    back_first now faults (refusal.OtherJob place kept asked) h = absurd (h goes)
    back_first now faults (refusal.Damaged side file place) h = inl tt
    back_first now faults r h = outside_first (λ n s. slice_get now n ≡ Some s) faults r h

    task_first : (r : Refusal) (t : Task) → IsTaskCause j t r → (j.premises → (n : ℕ) → n < t.number → (b : List ℕ) × IsValue (job_of j) (task t.kind n) b) → MayStandOverFolder r ⊎ IsFirst (Some r)
    task_first (refusal.BadInput input row why) t (number, takes, bad) earlier =
        inr (bad_first (job_of j) (d.reads store) resumable (refusal.BadInput input row why) (bad_task t row why takes (rw number at bad) earlier ∙ ap (λ (k : ℕ). Some (refusal.BadInput k row why)) (sym number)))
    task_first (refusal.Overfull pixel count) t (kind, not_cut) earlier =
        let h = not_cut goes in
        inr (rows_first (job_of j) (d.reads store) resumable h.rows (Some (refusal.Overfull pixel count)) h.are h.refused)
    task_first (refusal.TooMany what found limit) t (kind, three, not_cut) earlier =
        let h = not_cut goes in
        inr (rows_first (job_of j) (d.reads store) resumable h.rows (Some (refusal.TooMany what found limit)) h.are h.refused)
    task_first (refusal.InputChanged input pixel kept found) t (number, kind, never) earlier = absurd (never goes)
    task_first (refusal.Damaged side file place) t never earlier = inl tt
    task_first _ t h earlier = absurd h

    run_first : (now : List Src) (faults : ℕ) (r : Refusal) → IsRunCause j source now faults r → MayStandOverFolder r ⊎ IsFirst (Some r)
    run_first now faults r (inl h) = back_first now faults r h
    run_first now faults r (inr (inl h)) = outside_first (λ n s. slice_get now n ≡ Some s) faults r h
    run_first now faults r (inr (inr h)) = task_first r h.refused h.cause h.earlier

    module _ (rows partitions margin : ℕ) (now : List Src) (after : S) where
      shown : (answer : Option Refusal) → IsRun j source d answer rows partitions margin now after → ShownBy IsFirst answer
      shown None run = let numbers = run.numbers goes refl in whole_first (job_of j) (d.reads store) resumable numbers.all numbers.plan numbers.cut
      shown (Some r) run = run_first now (d.faults after) r run.cause

      -- what an import shows of the first refusal
      pub first_shown : (answer : Option Refusal) → IsRun j source d answer rows partitions margin now after → ShownBy (IsImportRefusal (asked_job settings (map source.label inputs) bytes) (d.reads store)) answer
      first_shown answer run = subst (λ (job : JobData). ShownBy (IsImportRefusal job (d.reads store)) answer) (job_same source d settings inputs store bytes tell) (shown answer run)
