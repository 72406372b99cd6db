-- What an import leaves of a folder, what it answers first, and why it is refused: by its settings and its inputs' names and bytes.
use Rattle.std.specs.Prelude.{◌≡◌, ◌≢◌, ◌⊎◌, ◌++◌, ◌∷◌, ◌^◌, ◌-◌, ⊤, ℕ, List, [], length, min, sum_by, Option, Some, None, IsSomeAnd}
use Rattle.hx_align.specs.Refusals.{IsCutRefusal}
use Rattle.hx_align.specs.declared.plan.PlanRow.{PlanRow}
use Rattle.hx_base.specs.FirstRefusals.{MayStandInPlace, OrElse}
use Rattle.hx_base.specs.Pixels.{count_in}
use Rattle.hx_base.specs.declared.refusal.Refusal.{Refusal}
use Rattle.hx_base.specs.declared.refusal.Refusal.TheVariants as refusal
use Rattle.hx_base.specs.declared.row.Row.{Row}
use Rattle.hx_base.specs.declared.settings.Settings.{Settings}
use Rattle.hx_base.specs.declared.task.Task.{Task}
use Rattle.hx_book.specs.Books.{IsInside}
use Rattle.hx_book.specs.Resumable.{IsRecordedIn, IsResumable, header_bytes}
use Rattle.hx_book.specs.Tasks.{AreAllRows, InputData, IsCut, JobData, contents_of, names_of}
use Rattle.hx_book.specs.Values.{AreMargins}
use Rattle.hx_catalog.specs.Catalogues.{IsCatalogue}
use Rattle.hx_inputs.specs.Inputs.{AreRows, bad_input}
use Rattle.hx_journal.specs.Differences.{DifferAt}
use Rattle.hx_journal.specs.Headers.{IsHeader}
use Rattle.hx_journal.specs.Journal.{Trims, journal_file}
use Rattle.hx_outside.specs.Disk.{After, DiskMembers}
use Rattle.hx_outside.specs.Faults.{HasFailed}
use Rattle.hx_outside.specs.Folders.{Folder, Step}
use Rattle.hx_import.specs.Cleaning.{properties_file}

-- ---- the job

-- inputs by their names and bytes
abbrev pub inputs_of : List (List ℕ) → List (List ℕ) → List InputData
inputs_of (name ∷ names) (bytes ∷ more) = record { name = name; bytes = bytes } ∷ inputs_of names more
inputs_of _ _ = []

abbrev pub job_of : Settings → List (List ℕ) → List (List ℕ) → JobData
job_of settings names bytes = record { settings = settings; inputs = inputs_of names bytes }

-- a store tells, and each folder that a crash now may leave can be taken up again by the job
pub record CanGoOn {S : Type 0} (d : DiskMembers S) (store : S) (job : JobData) : Type 0 where
  pub told : d.tells store
  pub resumable : (f : Folder) → d.may_leave store f → IsResumable job f

-- ---- the first refusal

-- the name is taken: a catalogue stands there without a journal
pub record IsTaken (name : List ℕ) (folder : Folder) : Type 0 where
  pub properties : folder (properties_file name) ≢ None
  pub no_journal : folder (journal_file name) ≡ None

-- the journal begins with another job's header, which first differs from the job's own at that place
pub record HasOtherHeader (job : JobData) (folder : Folder) (place kept asked : ℕ) : Type 0 where
  pub header : List ℕ
  pub rest : List ℕ
  pub heading : IsHeader header
  pub begins : folder (journal_file job.settings.name) ≡ Some (header ++ rest)
  pub differs : DifferAt header (header_bytes job) place kept asked

-- what the folder refuses: the name is taken, or the journal is another job's, or nothing
abbrev pub IsFolderRefusal : JobData → Folder → Option Refusal → Type 0
IsFolderRefusal job folder None = (¬ (IsTaken job.settings.name folder)) × ((place kept asked : ℕ) → ¬ (HasOtherHeader job folder place kept asked))
IsFolderRefusal job folder (Some refusal.NameTaken) = IsTaken job.settings.name folder
IsFolderRefusal job folder (Some (refusal.OtherJob place kept asked)) = HasOtherHeader job folder place kept asked
IsFolderRefusal job folder (Some _) = ⊥

-- what is refused of all rows: a pixel is overfull, or there are too many partitions, or nothing
abbrev pub IsRowsRefusal : JobData → Option Refusal → Type 0
IsRowsRefusal job first =
    (rows : List Row) × AreRows (names_of job) (contents_of job) rows
    × IsCutRefusal (λ pixel. count_in pixel rows) job.settings.lowest job.settings.highest job.settings.threshold first

-- the first refusal of inputs that are neither too many nor too long: of the folder, then of the inputs in their order, then of all rows
abbrev pub IsImportRefusal : JobData → Folder → Option Refusal → Type 0
IsImportRefusal job folder first =
    (early : Option Refusal) × IsFolderRefusal job folder early × OrElse early (OrElse (bad_input 0 (names_of job) (contents_of job)) (IsRowsRefusal job)) first

-- the answers that may come in place of one that isn't decided yet, where a folder is used: also a fault of the store, and damage
abbrev pub MayStandOverFolder : Refusal → Type 0
MayStandOverFolder refusal.StoreFault = ⊤
MayStandOverFolder (refusal.Damaged side file place) = ⊤
MayStandOverFolder r = MayStandInPlace r

-- what an answer shows of the first refusal
abbrev pub ShownBy : (Option Refusal → Type 0) → Option Refusal → Type 0
ShownBy IsFirst None = IsFirst None
ShownBy IsFirst (Some r) = MayStandOverFolder r ⊎ IsFirst (Some r)

-- a refusal that the folder alone decides
abbrev pub IsOfFolder : Refusal → Type 0
IsOfFolder refusal.NameTaken = ⊤
IsOfFolder (refusal.OtherJob place kept asked) = ⊤
IsOfFolder (refusal.NoCatalogue side) = ⊤
IsOfFolder _ = ⊥

-- such a refusal is answered only where it is right, and where one is right it is answered, or one that may stand in its place
pub record IsDecidedBy (IsRight : Option Refusal → Type 0) (answer : Option Refusal) : Type 0 where
  pub only : (r : Refusal) → answer ≡ Some r → IsOfFolder r → IsRight (Some r)
  pub always : (r : Refusal) → IsRight (Some r) → (answer ≡ Some r) ⊎ IsSomeAnd answer MayStandOverFolder

-- ---- what is left

-- at each moment since, a crash may have left what it might have left before, but for this step
abbrev pub LeavesBy : {S : Type 0} → DiskMembers S → S → S → Step → Type 0
LeavesBy d before now step = (f : Folder) → d.left_since now (d.moment before) f → After (d.may_leave before) step f

-- files outside the three folders of a name stay as they were
abbrev pub KeepsOthers : List ℕ → Step
KeepsOthers name f g = (n : List ℕ) → ¬ (IsInside name n) → g n ≡ f n

-- refusals before which no file is changed, but for what stands behind a journal's first closed gate
abbrev pub IsEarly : Refusal → Type 0
IsEarly (refusal.TooMany what found limit) = what ≢ 3
IsEarly r = IsOfFolder r

-- what an import leaves, whatever stood in the folder
pub record LeavesOthers {S : Type 0} (d : DiskMembers S) (before now : S) (name : List ℕ) (answer : Option Refusal) : Type 0 where
  pub told : d.tells now
  pub others : LeavesBy d before now (KeepsOthers name)
  pub early : (r : Refusal) → answer ≡ Some r → IsEarly r → LeavesBy d before now (Trims (journal_file name))

-- a folder can be taken up again, and has the tasks recorded that all folders had
pub record StillGoesOn {S : Type 0} (d : DiskMembers S) (before : S) (job : JobData) (f : Folder) : Type 0 where
  pub resumable : IsResumable job f
  pub recorded : (t : Task) → ((g : Folder) → d.may_leave before g → IsRecordedIn job t g) → IsRecordedIn job t f

-- a folder reads as the catalogue of all inputs' rows and the job's settings
abbrev pub HasWhole : JobData → Folder → Type 0
HasWhole job f = (rows : List Row) × AreAllRows job rows × IsCatalogue f job.settings.name job.settings rows

-- what an import leaves where it can go on: at each moment it could be taken up again; and where it isn't refused, the catalogue
pub record LeavesWhole {S : Type 0} (d : DiskMembers S) (before now : S) (job : JobData) (answer : Option Refusal) : Type 0 where
  pub goes_on : (f : Folder) → d.left_since now (d.moment before) f → StillGoesOn d before job f
  pub whole : answer ≡ None → (f : Folder) → d.may_leave now f → HasWhole job f

-- the numbers of a catalogue: its rows, its partitions and the rows of all its margins, each up to the last that 64 bits hold
pub record AreCounts (job : JobData) (rows partitions margin : ℕ) : Type 0 where
  pub all : List Row
  pub plan : List PlanRow
  pub cut : IsCut job all plan
  pub margins : List (List Row)
  pub are : AreMargins job.settings.margin_order all plan margins
  pub rows_are : rows ≡ min (length all) (2 ^ 64 - 1)
  pub partitions_are : partitions ≡ length plan
  pub margin_is : margin ≡ min (sum_by length margins) (2 ^ 64 - 1)

-- ---- why an import is refused

-- beside what its inputs give: the folder refuses; all rows are refused; or the outside. `goes_on` says that the inputs tell their bytes
-- and that the job can go on in each folder.
abbrev pub IsImportCause : {S : Type 0} → DiskMembers S → S → S → List ℕ → (differs : ℕ → ℕ → ℕ → Type 0) → (goes_on : Type 0) → Refusal → Type 0
IsImportCause d before now name differs goes_on refusal.NameTaken = goes_on → ⊥
IsImportCause d before now name differs goes_on (refusal.OtherJob place kept asked) = differs place kept asked × (goes_on → ⊥)
IsImportCause d before now name differs goes_on (refusal.Overfull pixel count) = ⊤
IsImportCause d before now name differs goes_on (refusal.TooMany what found limit) = what ≡ 3
IsImportCause d before now name differs goes_on (refusal.InputChanged input pixel kept found) = goes_on → ⊥
IsImportCause d before now name differs goes_on (refusal.Damaged side file place) = goes_on → ⊥
IsImportCause d before now name differs goes_on refusal.StoreFault = HasFailed d.faults before now
IsImportCause d before now name differs goes_on _ = ⊥
