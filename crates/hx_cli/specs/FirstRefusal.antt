-- Which refusal of a command comes first, by the inputs' names and bytes and the folder.
use Rattle.std.specs.Prelude.{◌≡◌, ◌≢◌, ◌⊎◌, ℕ, List, length, Option, Some, None, IsSome, IsSomeAnd, Result, Ok, Err}
use Rattle.std.specs.Option.{option_or}
use Rattle.hx_align.specs.Refusals.{IsCutRefusal}
use Rattle.hx_base.specs.Coverage.{IsLeastTooNear, NoneTooNear}
use Rattle.hx_base.specs.FirstRefusals.{MayStandInPlace, OrElse}
use Rattle.hx_base.specs.Pixels.{count_in}
use Rattle.hx_base.specs.declared.pixel.Pixel.{Pixel}
use Rattle.hx_base.specs.declared.refusal.Refusal.{Refusal}
use Rattle.hx_base.specs.declared.refusal.Refusal.TheVariants as refusal
use Rattle.hx_base.specs.declared.row.Row.{Row}
use Rattle.hx_base.specs.declared.settings.Settings.{Settings}
use Rattle.hx_catalog.specs.Catalogues.{HasList, IsFinished}
use Rattle.hx_catalog.specs.Files.{properties_file}
use Rattle.hx_import.specs.Imports.{IsFolderRefusal, IsImportRefusal, IsOfFolder, MayStandOverFolder, job_of}
use Rattle.hx_inputs.specs.Inputs.{AreRows, bad_input, too_long, too_many_inputs}
use Rattle.hx_outside.specs.Folders.{Folder}
use Rattle.hx_cli.specs.Asked.{query_of, settings_of}
use Rattle.hx_words.specs.Words.{Around, Clean, Command, Histogram, Import, Match, Plan}
use Rattle.hx_xmatch.specs.Outcomes.{IsAbsent, radius2}
use Rattle.hx_xmatch.specs.declared.query.Query.{Query}

-- ---- the commands one by one

-- the first refusal of a plan of inputs without a fault
abbrev pub IsPlanRefusal : ℕ → ℕ → ℕ → List (List ℕ) → List (List ℕ) → Option Refusal → Type 0
IsPlanRefusal lowest highest threshold names bytes first = (rows : List Row) × AreRows names bytes rows × IsCutRefusal (λ pixel. count_in pixel rows) lowest highest threshold first

-- of a catalogue to be cleaned: it has no properties
abbrev pub IsCleanRefusal : List ℕ → Folder → Option Refusal → Type 0
IsCleanRefusal name folder None = folder (properties_file name) ≢ None
IsCleanRefusal name folder (Some (refusal.NoCatalogue side)) = (side ≡ 1) × (folder (properties_file name) ≡ None)
IsCleanRefusal name folder (Some _) = ⊥

-- of two catalogues to be matched: the left one has none, or else the right one
abbrev pub IsAbsentRefusal : Query → Folder → Option Refusal → Type 0
IsAbsentRefusal query folder None = IsSome (folder (properties_file query.left)) × IsSome (folder (properties_file query.right))
IsAbsentRefusal query folder (Some given) = IsAbsent folder query given

-- the least pair of pixels of the cover order that are too near, or none
abbrev pub IsGapRefusal : List Pixel → ℕ → ℕ → List Row → List Row → Option Refusal → Type 0
IsGapRefusal parts margin_order r2 left right None = NoneTooNear parts margin_order r2 left right
IsGapRefusal parts margin_order r2 left right (Some given) =
    (p q gap2 : ℕ) × (given ≡ refusal.TooNarrow p q gap2) × IsLeastTooNear parts margin_order r2 left right p q gap2

-- over the rows of two finished catalogues
pub record IsNarrowRefusal (query : Query) (folder : Folder) (first : Option Refusal) : Type 0 where
  pub left_settings : Settings
  pub left_rows : List Row
  pub is_left : IsFinished folder query.left left_settings left_rows
  pub right_settings : Settings
  pub right_rows : List Row
  pub is_right : IsFinished folder query.right right_settings right_rows
  pub parts : List Pixel
  pub listed : HasList folder query.right parts
  pub first_is : IsGapRefusal parts right_settings.margin_order (radius2 query) left_rows right_rows first

-- the first refusal of a match: a catalogue is absent, or else a pair of pixels is too near
abbrev pub IsFirstOfMatch : Query → Folder → Option Refusal → Type 0
IsFirstOfMatch query folder first = (early : Option Refusal) × IsAbsentRefusal query folder early × OrElse early (IsNarrowRefusal query folder) first

-- ---- all commands

-- the first refusal of inputs that are not too many nor too long, or that there is none
abbrev pub IsLaterRefusal : Command → List (List ℕ) → List (List ℕ) → Folder → Option Refusal → Type 0
IsLaterRefusal (Histogram order files) names bytes folder first = first ≡ bad_input 0 names bytes
IsLaterRefusal (Plan lowest highest threshold files) names bytes folder first = OrElse (bad_input 0 names bytes) (IsPlanRefusal lowest highest threshold names bytes) first
IsLaterRefusal (Around order pixel) names bytes folder first = first ≡ None
IsLaterRefusal (Import lowest highest threshold margin_order name files) names bytes folder first =
    IsImportRefusal (job_of (settings_of lowest highest threshold margin_order name) names bytes) folder first
IsLaterRefusal (Clean name) names bytes folder first = IsCleanRefusal name folder first
IsLaterRefusal (Match left right radius output) names bytes folder first = IsFirstOfMatch (query_of left right radius output) folder first

-- the first refusal of a command over inputs with these names and bytes and a folder: too many inputs; one that is too long; then what
-- the command itself refuses; or that there is none
abbrev pub IsFirstRefusal : Command → List (List ℕ) → List (List ℕ) → Folder → Option Refusal → Type 0
IsFirstRefusal command names bytes folder first = OrElse (option_or (too_many_inputs (length names)) (too_long bytes)) (IsLaterRefusal command names bytes folder) first

-- ---- what no rows decide

-- what the folder refuses, whatever rows there are: nothing to a command that doesn't use it
abbrev pub IsRefusalOfFolder : Command → List (List ℕ) → List (List ℕ) → Folder → Option Refusal → Type 0
IsRefusalOfFolder (Histogram order files) names bytes folder first = first ≡ None
IsRefusalOfFolder (Plan lowest highest threshold files) names bytes folder first = first ≡ None
IsRefusalOfFolder (Around order pixel) names bytes folder first = first ≡ None
IsRefusalOfFolder (Import lowest highest threshold margin_order name files) names bytes folder first =
    IsFolderRefusal (job_of (settings_of lowest highest threshold margin_order name) names bytes) folder first
IsRefusalOfFolder (Clean name) names bytes folder first = IsCleanRefusal name folder first
IsRefusalOfFolder (Match left right radius output) names bytes folder first = IsAbsentRefusal (query_of left right radius output) folder first

-- the first refusal that no rows decide: too many inputs; one that is too long; then the folder's
abbrev pub IsEarlyRefusal : Command → List (List ℕ) → List (List ℕ) → Folder → Option Refusal → Type 0
IsEarlyRefusal command names bytes folder first = OrElse (option_or (too_many_inputs (length names)) (too_long bytes)) (IsRefusalOfFolder command names bytes folder) first

-- ---- what may come in its place

-- the answers that may come in place of one that isn't decided yet: a fault of an input and want of memory; of a command that uses the
-- folder also a fault of the store, and damage
abbrev pub MayStandFor : Command → Refusal → Type 0
MayStandFor (Histogram order files) r = MayStandInPlace r
MayStandFor (Plan lowest highest threshold files) r = MayStandInPlace r
MayStandFor (Around order pixel) r = MayStandInPlace r
MayStandFor (Import lowest highest threshold margin_order name files) r = MayStandOverFolder r
MayStandFor (Clean name) r = MayStandOverFolder r
MayStandFor (Match left right radius output) r = MayStandOverFolder r

-- what is shown of the first refusal by work that is done or refused; a refusal that may stand in its place leaves it open
abbrev pub ShowsFor : {T : Type 0} → Command → (Option Refusal → Type 0) → Result T Refusal → Type 0
ShowsFor command IsFirst (Ok done) = IsFirst None
ShowsFor command IsFirst (Err r) = MayStandFor command r ⊎ IsFirst (Some r)

-- the answers beside the first refusal: one that may stand in its place, and the sink's where there is none
abbrev pub MayBeInsteadFor : Command → Option Refusal → Type 0 → Type 0
MayBeInsteadFor command answer none = IsSomeAnd answer (MayStandFor command) ⊎ ((answer ≡ Some refusal.SinkFault) × none)

-- each refusal is answered exactly where it comes first
pub record IsExactFor (command : Command) (answer : Option Refusal) (IsFirst : Option Refusal → Type 0) : Type 0 where
  pub only : IsFirst answer ⊎ MayBeInsteadFor command answer (IsFirst None)
  pub always : (first : Option Refusal) → IsFirst first → (answer ≡ first) ⊎ MayBeInsteadFor command answer (first ≡ None)

-- a refusal of the folder is answered only where it comes first; and where one that no rows decide does, it is answered
pub record IsDecidedFor (command : Command) (answer : Option Refusal) (IsRight : Option Refusal → Type 0) : Type 0 where
  pub only : (r : Refusal) → answer ≡ Some r → IsOfFolder r → IsRight (Some r)
  pub always : (r : Refusal) → IsRight (Some r) → (answer ≡ Some r) ⊎ IsSomeAnd answer (MayStandFor command)
