-- What an answer and its printing say of a run.
use Rattle.std.proofs.Common.{◌≡◌, ◌≢◌, ◌<◌, ◌⊎◌, ℕ, List, [], ◌∷◌, Option, Some, None, IfSome, IsOkAnd, Result, Ok, Err, IfErr, IfOk, Vec, Global, refl, ap, arith, inl, inr, length, map, subst, ◌∙◌}
use Rattle.hx_align.specs.Refusals.{IsCutCause}
use Rattle.hx_base.specs.FirstRefusals.{MayStandInPlace}
use Rattle.hx_base.specs.declared.refusal.JobFile.{JobFile}
use Rattle.hx_base.specs.declared.refusal.JobFile.TheVariants as file
use Rattle.hx_base.specs.declared.refusal.Refusal.{Refusal}
use Rattle.hx_base.specs.declared.refusal.Refusal.TheVariants as refusal
use Rattle.hx_catalog.specs.Answers.{IsOutside}
use Rattle.hx_import.specs.Cleaning.{IsNotCleaned, MayRefuseCleaning}
use Rattle.hx_import.specs.Imports.{IsImportCause, IsOfFolder, MayStandOverFolder}
use Rattle.hx_inputs.specs.Causes.{IsInputsCause}
use Rattle.hx_inputs.specs.Inputs.{IsAfterRows}
use Rattle.hx_inputs.specs.Sources.{NoneRose, Tell}
use Rattle.hx_journal.specs.Journal.{IsFirstDamage, IsJournal, journal_file}
use Rattle.hx_outside.specs.Disk.{DiskMembers}
use Rattle.hx_outside.specs.Faults.{HasFailed}
use Rattle.hx_outside.specs.Sources.{SourceMembers}
use Rattle.hx_words.specs.Words.{Around, Clean, Command, HasNoMeaning, Histogram, Import, Match, Means, Plan}
use Rattle.hx_xmatch.specs.Files.{NamesFileOf}
use Rattle.hx_xmatch.specs.Outcomes.{MayRefuseMatch}
use Rattle.hx_cli.specs.Asked.{Premises}
use Rattle.hx_cli.specs.FirstRefusal.{IsDecidedFor, IsExactFor, MayBeInsteadFor, MayStandFor, ShowsFor}
use Rattle.hx_cli.specs.Leaves.{work_refusal}
use Rattle.hx_cli.specs.Runs.{Decides, Gains, IsCaused, IsOutput, IsOwnCause, IsTextOf, Prints, StoreIsStill, refusal_in}

-- ---- refusals that are no command's own

abbrev IsForeign : Refusal → Type 0
IsForeign refusal.Usage = Unit {0}
IsForeign refusal.SinkFault = Unit {0}
IsForeign (refusal.InputFault input) = Unit {0}
IsForeign _ = ⊥

no-cut : (threshold : ℕ) (r : Refusal) → IsForeign r → IsCutCause threshold r → ⊥
no-cut threshold refusal.Usage foreign own = own
no-cut threshold refusal.SinkFault foreign own = own
no-cut threshold (refusal.InputFault input) foreign own = own
no-cut threshold _ foreign own = foreign

no-import : {S : Type 0} (d : DiskMembers S) (before now : S) (name : List ℕ) (differs : ℕ → ℕ → ℕ → Type 0) (goes_on : Type 0) (r : Refusal) → IsForeign r → IsImportCause d before now name differs goes_on r → ⊥
no-import d before now name differs goes_on refusal.Usage foreign own = own
no-import d before now name differs goes_on refusal.SinkFault foreign own = own
no-import d before now name differs goes_on (refusal.InputFault input) foreign own = own
no-import d before now name differs goes_on _ foreign own = foreign

no-clean : (r : Refusal) → IsForeign r → MayRefuseCleaning r → ⊥
no-clean refusal.Usage foreign own = own
no-clean refusal.SinkFault foreign own = own
no-clean (refusal.InputFault input) foreign own = own
no-clean _ foreign own = foreign

no-outside : (r : Refusal) → IsForeign r → IsOutside r → ⊥
no-outside r foreign (inl is) = rw is at foreign
no-outside r foreign (inr is) = rw is at foreign

no-file : (side : ℕ) (r : Refusal) → IsForeign r → NamesFileOf side r → ⊥
no-file side r foreign (file, place, is) = rw is at foreign

no-match : (r : Refusal) → IsForeign r → MayRefuseMatch r → ⊥
no-match r foreign (inl (inl out)) = no-outside r foreign out
no-match r foreign (inl (inr (inl is))) = rw is at foreign
no-match r foreign (inl (inr (inr (inl (place, is))))) = rw is at foreign
no-match r foreign (inl (inr (inr (inr (place, is))))) = rw is at foreign
no-match r foreign (inr (inl (inl out))) = no-outside r foreign out
no-match r foreign (inr (inl (inr (inl is)))) = rw is at foreign
no-match r foreign (inr (inl (inr (inr (inl (place, is)))))) = rw is at foreign
no-match r foreign (inr (inl (inr (inr (inr (place, is)))))) = rw is at foreign
no-match r foreign (inr (inr (inl (inl (inl out))))) = no-outside r foreign out
no-match r foreign (inr (inr (inl (inl (inr named))))) = no-file 1 r foreign named
no-match r foreign (inr (inr (inl (inr (inl out))))) = no-outside r foreign out
no-match r foreign (inr (inr (inl (inr (inr named))))) = no-file 2 r foreign named
no-match r foreign (inr (inr (inr (p, q, gap2, is)))) = rw is at foreign

-- a refusal of a plan's own is no input's
pub turn_of_cut : (threshold : ℕ) (names bytes : List (List ℕ)) (r : Refusal) → IsCutCause threshold r → IsAfterRows names bytes r
turn_of_cut threshold names bytes (refusal.InputFault i) cause = absurd cause
turn_of_cut threshold names bytes _ cause = tt

-- what holds of every refusal of an answer holds of that of its printing
pub printed : (P : Refusal → Type 0) (answered : Result (Vec ℕ Global) Refusal) (outcome : Option Refusal) → Prints answered outcome → P refusal.SinkFault → IfErr answered P → IfSome outcome P
printed P (Ok text) None prints sink all = tt
printed P (Ok text) (Some refusal.SinkFault) prints sink all = sink
printed P (Ok text) (Some _) prints sink all = absurd prints
printed P (Err r) outcome prints sink all = rw prints all

pub of_each : {T : Type 0} (P : Refusal → Type 0) (result : Result T Refusal) → ((r : Refusal) → P r) → IfErr result P
of_each P (Ok x) each = tt
of_each P (Err r) each = each r

-- the refusal of the work is that of the answer
pub work_of : (answered : Result (Vec ℕ Global) Refusal) (outcome : Option Refusal) → Prints answered outcome → answered ≢ Err refusal.SinkFault → work_refusal outcome ≡ refusal_in answered
work_of (Ok text) None prints none = refl
work_of (Ok text) (Some refusal.SinkFault) prints none = refl
work_of (Ok text) (Some _) prints none = absurd prints
work_of (Err refusal.SinkFault) outcome prints none = absurd (none refl)
work_of (Err refusal.Usage) outcome prints none = rw prints refl
work_of (Err (refusal.BadInput a b c)) outcome prints none = rw prints refl
work_of (Err (refusal.Overfull a b)) outcome prints none = rw prints refl
work_of (Err (refusal.TooNarrow a b c)) outcome prints none = rw prints refl
work_of (Err refusal.StoreFault) outcome prints none = rw prints refl
work_of (Err (refusal.InputFault a)) outcome prints none = rw prints refl
work_of (Err refusal.Memory) outcome prints none = rw prints refl
work_of (Err (refusal.NoCatalogue a)) outcome prints none = rw prints refl
work_of (Err (refusal.OtherJob a b c)) outcome prints none = rw prints refl
work_of (Err (refusal.Damaged a b c)) outcome prints none = rw prints refl
work_of (Err (refusal.InputChanged a b c e)) outcome prints none = rw prints refl
work_of (Err (refusal.TooMany a b c)) outcome prints none = rw prints refl
work_of (Err refusal.NameTaken) outcome prints none = rw prints refl

-- an answer's refusal is printed
pub refused_as : (answered : Result (Vec ℕ Global) Refusal) (outcome : Option Refusal) (r : Refusal) → Prints answered outcome → answered ≡ Err r → outcome ≡ Some r
refused_as (Ok text) outcome r prints is = cc is
refused_as (Err given) outcome r prints is = prints ∙ cc is

-- a refusal that is not the sink's was the answer's
pub answered_as : (answered : Result (Vec ℕ Global) Refusal) (outcome : Option Refusal) (r : Refusal) → Prints answered outcome → r ≢ refusal.SinkFault → outcome ≡ Some r → answered ≡ Err r
answered_as (Ok text) None r prints other is = cc is
answered_as (Ok text) (Some refusal.SinkFault) r prints other is = absurd (other (cc is))
answered_as (Ok text) (Some _) r prints other is = absurd prints
answered_as (Err given) outcome r prints other is = let same : given ≡ r = cc (prints, is) in ap (λ (x : Refusal). Err x) same

-- ---- causes

module _ {Src S : Type 0} (source : SourceMembers Src) (d : DiskMembers S) (inputs inputs_now : List Src) (store now : S) where
  abbrev Own : Command → Refusal → Type 0
  Own command r = IsOwnCause d store now (map source.label inputs) (Tell source inputs) command r

  no-own : (command : Command) (r : Refusal) → IsForeign r → Own command r → ⊥
  no-own (Histogram order files) r foreign own = own
  no-own (Plan lowest highest threshold files) r foreign own = no-cut threshold r foreign own
  no-own (Around order pixel) r foreign own = own
  no-own (Import lowest highest threshold margin_order name files) r foreign own = no-import d store now name _ _ r foreign own
  no-own (Clean name) r foreign own = no-clean r foreign own.kind
  no-own (Match left right radius output) r foreign own = no-match r foreign own.kind

  abbrev Cause : Command → Refusal → Type 0
  Cause command r = IsInputsCause source inputs inputs_now r ⊎ Own command r

  -- neither usage nor a fault of the sink is a command's
  pub not_usage : (command : Command) → Cause command refusal.Usage → ⊥
  not_usage command (inl inputs) = inputs
  not_usage command (inr own) = no-own command refusal.Usage tt own

  pub not_sink : (command : Command) → Cause command refusal.SinkFault → ⊥
  not_sink command (inl inputs) = inputs
  not_sink command (inr own) = no-own command refusal.SinkFault tt own

  caused-err : (P : Refusal → Type 0) (answered : Result (Vec ℕ Global) Refusal) (r : Refusal) → IfErr answered P → answered ≡ Err r → P r
  caused-err P (Ok text) r all is = cc is
  caused-err P (Err given) r all is = let same : given ≡ r = cc is in subst P same all

  pub never_usage : (command : Command) (answered : Result (Vec ℕ Global) Refusal) → IfErr answered (Cause command) → answered ≢ Err refusal.Usage
  never_usage command answered cause is = not_usage command (caused-err (Cause command) answered refusal.Usage cause is)

  pub never_sink : (command : Command) (answered : Result (Vec ℕ Global) Refusal) → IfErr answered (Cause command) → answered ≢ Err refusal.SinkFault
  never_sink command answered cause is = not_sink command (caused-err (Cause command) answered refusal.SinkFault cause is)

  module _ (words : List (List ℕ)) (failed : Type 0) where
    caused-by : (command : Command) → Means words command → (r : Refusal) → Cause command r → IsCaused source d words inputs inputs_now store now failed r
    caused-by command means r cause = inr (inr (command, means, cause))

    pub caused : (command : Command) → Means words command → (answered : Result (Vec ℕ Global) Refusal) (outcome : Option Refusal) → Prints answered outcome
        → IfErr answered (Cause command) → (outcome ≡ Some refusal.SinkFault → failed) → IfSome outcome (IsCaused source d words inputs inputs_now store now failed)
    caused command means (Ok text) None prints cause sink = tt
    caused command means (Ok text) (Some refusal.SinkFault) prints cause sink = inr (inl (refl, sink refl))
    caused command means (Ok text) (Some _) prints cause sink = absurd prints
    caused command means (Err r) outcome prints cause sink = rw prints (caused-by command means r cause)

    pub caused_usage : HasNoMeaning words → (answered : Result (Vec ℕ Global) Refusal) (outcome : Option Refusal) → Prints answered outcome → answered ≡ Err refusal.Usage
        → IfSome outcome (IsCaused source d words inputs inputs_now store now failed)
    caused_usage none (Ok text) outcome prints is = cc is
    caused_usage none (Err r) outcome prints is = let same : r ≡ refusal.Usage = cc is in rw prints (inl (same, none))

  -- ---- completeness

  -- a list that has a place has an element
  element : (xs : List Src) (i : ℕ) → i < length xs → Src
  element [] i below = absurd (omega (arith, below))
  element (x ∷ xs) i below = x

  input-alone : (command : Command) (input : ℕ) → Cause command (refusal.InputFault input) → NoneRose source inputs inputs_now → ⊥
  input-alone command input (inl cause) still = let e = element inputs input cause.0 in still input e cause.0 (cause.1 e).1
  input-alone command input (inr own) still = no-own command (refusal.InputFault input) tt own

  reading-alone : (command : Command) (r : Refusal) → MayStandInPlace r → Cause command r → NoneRose source inputs inputs_now → r ≡ refusal.Memory
  reading-alone command refusal.Memory stands cause still = refl
  reading-alone command (refusal.InputFault input) stands cause still = absurd (input-alone command input cause still)
  reading-alone command _ stands cause still = absurd stands

  -- damage is no journal
  abbrev pub DamageIsNone : Type 0
  DamageIsNone = (bytes : List ℕ) (place : ℕ) → IsFirstDamage bytes place → IsJournal bytes → ⊥

  module _ (law : DamageIsNone) (bytes : List (List ℕ)) (tell : Tell source inputs bytes) where
    clean-damaged : (name : List ℕ) (side place : ℕ) (left : JobFile) → ((b : List ℕ) → d.reads store (journal_file name) ≡ Some b → IsJournal b)
        → IsNotCleaned (d.reads store) name (refusal.Damaged side left place) → ⊥
    clean-damaged name side place file.Journal sound (is, some, b, there, damage) = law b place damage (sound b there)
    clean-damaged name side place (file.Map input) sound not = not
    clean-damaged name side place file.Plan sound not = not
    clean-damaged name side place (file.Split input) sound not = not
    clean-damaged name side place (file.Part part) sound not = not
    clean-damaged name side place (file.MarginSplit part) sound not = not
    clean-damaged name side place (file.Margin part) sound not = not
    clean-damaged name side place file.List sound not = not
    clean-damaged name side place file.MarginList sound not = not
    clean-damaged name side place file.MarginProperties sound not = not
    clean-damaged name side place file.Properties sound not = not

    folder-alone : (command : Command) (r : Refusal) → MayStandOverFolder r → Cause command r → NoneRose source inputs inputs_now
        → (Own command refusal.StoreFault → ⊥) → ((side place : ℕ) (left : JobFile) → Own command (refusal.Damaged side left place) → ⊥) → r ≡ refusal.Memory
    folder-alone command refusal.Memory stands cause still store_still sound = refl
    folder-alone command (refusal.InputFault input) stands cause still store_still sound = absurd (input-alone command input cause still)
    folder-alone command refusal.StoreFault stands (inl cause) still store_still sound = absurd cause
    folder-alone command refusal.StoreFault stands (inr own) still store_still sound = absurd (store_still own)
    folder-alone command (refusal.Damaged side left place) stands (inl cause) still store_still sound = absurd cause
    folder-alone command (refusal.Damaged side left place) stands (inr own) still store_still sound = absurd (sound side place left own)
    folder-alone command _ stands cause still store_still sound = absurd stands

    not-exact : (side place : ℕ) (left : JobFile) → IsOutside (refusal.Damaged side left place) → ⊥
    not-exact side place left (inl is) = cc is
    not-exact side place left (inr is) = cc is

    alone : (command : Command) → Premises d store command (map source.label inputs) bytes → (r : Refusal) → MayStandFor command r → Cause command r
        → NoneRose source inputs inputs_now → StoreIsStill command (HasFailed d.faults store now) → r ≡ refusal.Memory
    alone (Histogram order files) holds r stands cause still store_still = reading-alone (Histogram order files) r stands cause still
    alone (Plan lowest highest threshold files) holds r stands cause still store_still = reading-alone (Plan lowest highest threshold files) r stands cause still
    alone (Around order pixel) holds r stands cause still store_still = reading-alone (Around order pixel) r stands cause still
    alone (Import l h t m name files) goes r stands cause still store_still =
        folder-alone (Import l h t m name files) r stands cause still store_still (λ side place left own. own (bytes, tell, goes))
    alone (Clean name) holds r stands cause still store_still =
        folder-alone (Clean name) r stands cause still (λ own. store_still (own.failed refl)) (λ side place left own. clean-damaged name side place left holds.journal (own.of_folder holds.told))
    alone (Match left right radius output) both r stands cause still store_still =
        folder-alone (Match left right radius output) r stands cause still (λ own. store_still (own.failed refl))
        (λ side place left_file own. elim (own.of_finished both) [ inl out ↦ not-exact side place left_file out | inr (p, q, gap2, is, least) ↦ cc is ])

    -- where no refusal comes first and no count rose, only want of memory is refused
    pub memory_alone : (command : Command) → Premises d store command (map source.label inputs) bytes → (none failed : Type 0) (answered : Result (Vec ℕ Global) Refusal) (outcome : Option Refusal)
        → Prints answered outcome → IfErr answered (Cause command) → (outcome ≡ Some refusal.SinkFault → failed) → (outcome ≡ None) ⊎ MayBeInsteadFor command outcome none
        → NoneRose source inputs inputs_now → StoreIsStill command (HasFailed d.faults store now) → (failed → ⊥) → (outcome ≡ None) ⊎ (outcome ≡ Some refusal.Memory)
    memory_alone command holds none failed answered outcome prints cause sink (inl done) still store_still no_sink = inl done
    memory_alone command holds none failed answered outcome prints cause sink (inr (inr (is, _))) still store_still no_sink = absurd (no_sink (sink is))
    memory_alone command holds none failed (Ok text) None prints cause sink (inr (inl stands)) still store_still no_sink = inl refl
    memory_alone command holds none failed (Ok text) (Some refusal.SinkFault) prints cause sink (inr (inl stands)) still store_still no_sink = absurd (no_sink (sink refl))
    memory_alone command holds none failed (Ok text) (Some _) prints cause sink (inr (inl stands)) still store_still no_sink = absurd prints
    memory_alone command holds none failed (Err r) outcome prints cause sink (inr (inl stands)) still store_still no_sink =
        let stands-here : MayStandFor command r = rw prints at stands in
        let is : r ≡ refusal.Memory = alone command holds r stands-here cause still store_still in
        inr (prints ∙ rw is refl)

-- ---- the first refusal

module _ (command : Command) (IsFirst : Option Refusal → Type 0) where
  -- printing keeps what an answer shows of the first refusal
  shown : (answered : Result (Vec ℕ Global) Refusal) (outcome : Option Refusal) → Prints answered outcome → ShowsFor command IsFirst answered → IsFirst outcome ⊎ MayBeInsteadFor command outcome (IsFirst None)
  shown (Ok text) None prints shows = inl shows
  shown (Ok text) (Some refusal.SinkFault) prints shows = inr (inr (refl, shows))
  shown (Ok text) (Some _) prints shows = absurd prints
  shown (Err r) outcome prints (inl free) = inr (inl (rw prints free))
  shown (Err r) outcome prints (inr first) = inl (rw prints first)

  leads-to : ((a b : Option Refusal) → IsFirst a → IsFirst b → a ≡ b) → (outcome : Option Refusal) → IsFirst outcome ⊎ MayBeInsteadFor command outcome (IsFirst None)
      → (first : Option Refusal) → IsFirst first → (outcome ≡ first) ⊎ MayBeInsteadFor command outcome (first ≡ None)
  leads-to one outcome (inl is) first first-is = inl (one outcome first is first-is)
  leads-to one outcome (inr (inl free)) first first-is = inr (inl free)
  leads-to one outcome (inr (inr (failed, none))) first first-is = inr (inr (failed, one first None first-is none))

  pub exactly : ((a b : Option Refusal) → IsFirst a → IsFirst b → a ≡ b) → (answered : Result (Vec ℕ Global) Refusal) (outcome : Option Refusal) → Prints answered outcome → ShowsFor command IsFirst answered
      → IsExactFor command outcome IsFirst
  exactly one answered outcome prints shows =
      let shown = shown answered outcome prints shows in
      record { only = shown; always = leads-to one outcome shown }

not-of-folder : (r : Refusal) → Some refusal.SinkFault ≡ Some r → IsOfFolder r → ⊥
not-of-folder r is of = let same : refusal.SinkFault ≡ r = cc is in rw (← same) at of

-- what the folder refuses is decided by the printing as by the answer
decided-here : (command : Command) (IsRight : Option Refusal → Type 0) → IsDecidedFor command None IsRight → IsDecidedFor command (Some refusal.SinkFault) IsRight
decided-here command IsRight by = record {
  only = λ r is of. absurd (not-of-folder r is of);
  always = λ r right. elim (by.always r right) [ inl is ↦ cc is | inr none ↦ absurd none ];
}

decided-sink : (command : Command) (IsRight : Option Refusal → Type 0) → Decides command None IsRight → Decides command (Some refusal.SinkFault) IsRight
decided-sink (Histogram order files) IsRight by = tt
decided-sink (Plan lowest highest threshold files) IsRight by = tt
decided-sink (Around order pixel) IsRight by = tt
decided-sink (Import l h t m name files) IsRight by = decided-here (Import l h t m name files) IsRight by
decided-sink (Clean name) IsRight by = decided-here (Clean name) IsRight by
decided-sink (Match left right radius output) IsRight by = decided-here (Match left right radius output) IsRight by

pub decided_printed : (command : Command) (IsRight : Option Refusal → Type 0) (answered : Result (Vec ℕ Global) Refusal) (outcome : Option Refusal) → Prints answered outcome
    → Decides command (refusal_in answered) IsRight → Decides command outcome IsRight
decided_printed command IsRight (Ok text) None prints by = by
decided_printed command IsRight (Ok text) (Some refusal.SinkFault) prints by = decided-sink command IsRight by
decided_printed command IsRight (Ok text) (Some _) prints by = absurd prints
decided_printed command IsRight (Err r) outcome prints by = rw prints by

-- ---- the sink

-- what the sink gained, by another word for the text
gains-weaker : (P Q : List ℕ → Type 0) → ((text : List ℕ) → P text → Q text) → (before : List ℕ) (now : Option (List ℕ)) (outcome : Option Refusal) → Gains P before now outcome → Gains Q before now outcome
gains-weaker P Q f before now None h = (h.0, f h.0 h.1, h.2)
gains-weaker P Q f before now (Some refusal.SinkFault) h = (h.0, h.1, f h.0 h.2, h.3)
gains-weaker P Q f before now (Some _) h = h

-- the text that was answered
of-answer : (answered : Result (Vec ℕ Global) Refusal) (P : List ℕ → Type 0) → IfOk answered (λ t. P t.items) → (text : List ℕ) → IsOkAnd answered (λ t. text ≡ t.items) → P text
of-answer (Ok t) P h text is = rw is h
of-answer (Err r) P h text is = absurd is

-- what is so of a text for all that the sources may tell is so for each
for_all_bytes : (answered : Result (Vec ℕ Global) Refusal) (Told : List (List ℕ) → Type 0) (P : List (List ℕ) → List ℕ → Type 0)
    → ((bytes : List (List ℕ)) → Told bytes → IfOk answered (λ t. P bytes t.items)) → IfOk answered (λ t. (bytes : List (List ℕ)) → Told bytes → P bytes t.items)
for_all_bytes (Ok t) Told P h = h
for_all_bytes (Err r) Told P h = tt

-- the output of a line by its command
pub output_of : {S : Type 0} (d : DiskMembers S) (store : S) (words names bytes : List (List ℕ)) (command : Command) → Means words command → (answered : Result (Vec ℕ Global) Refusal)
    → IfOk answered (λ t. IsTextOf d store command names bytes t.items) → IfOk answered (λ t. IsOutput d store words names bytes t.items)
output_of d store words names bytes command means (Ok t) text = (command, means, text)
output_of d store words names bytes command means (Err r) text = tt

pub output_of_usage : {S : Type 0} (d : DiskMembers S) (store : S) (words names bytes : List (List ℕ)) (answered : Result (Vec ℕ Global) Refusal) → answered ≡ Err refusal.Usage → IfOk answered (λ t. IsOutput d store words names bytes t.items)
output_of_usage d store words names bytes (Ok t) is = cc is
output_of_usage d store words names bytes (Err r) is = tt

pub gained : (written now : Option (List ℕ)) (answered : Result (Vec ℕ Global) Refusal) (outcome : Option Refusal) (Told : List (List ℕ) → Type 0) (P : List (List ℕ) → List ℕ → Type 0)
    → IfSome written (λ before. Gains (λ text. IsOkAnd answered (λ t. text ≡ t.items)) before now outcome)
    → ((bytes : List (List ℕ)) → Told bytes → IfOk answered (λ t. P bytes t.items))
    → IfSome written (λ before. Gains (λ text. (bytes : List (List ℕ)) → Told bytes → P bytes text) before now outcome)
gained None now answered outcome Told P gains text = tt
gained (Some before) now answered outcome Told P gains text =
    gains-weaker (λ text. IsOkAnd answered (λ t. text ≡ t.items)) (λ text. (bytes : List (List ℕ)) → Told bytes → P bytes text)
    (of-answer answered (λ text. (bytes : List (List ℕ)) → Told bytes → P bytes text) (for_all_bytes answered Told P text)) before now outcome gains
