-- What cleaning leaves of a folder: the work files of an import go, and its journal behind them.
use Rattle.std.specs.Prelude.{◌≡◌, ◌≢◌, ◌⊎◌, ◌++◌, ⊤, ℕ, List, All, Some, None, codes}
use Rattle.hx_base.specs.Paths.{folder_of, path_of}
use Rattle.hx_base.specs.Tasks.{file_of}
use Rattle.hx_base.specs.declared.pixel.Pixel.{Pixel}
use Rattle.hx_base.specs.declared.refusal.JobFile.{JobFile}
use Rattle.hx_base.specs.declared.refusal.JobFile.TheVariants as file
use Rattle.hx_base.specs.declared.refusal.Refusal.{Refusal}
use Rattle.hx_base.specs.declared.refusal.Refusal.TheVariants as refusal
use Rattle.hx_base.specs.declared.task.Task.{Task}
use Rattle.hx_journal.specs.Headers.{IsHeader}
use Rattle.hx_journal.specs.Journal.{IsFirstDamage, Stands, journal_file}
use Rattle.hx_journal.specs.declared.record.Record.{Record}
use Rattle.hx_outside.specs.Folders.{Folder, Step}

-- the folder for work, as it goes on behind the catalogue's name
abbrev pub work_folder : List ℕ
work_folder = codes ".work/"

-- a file of the folder for work
abbrev pub IsWorkFile : List ℕ → List ℕ → Type 0
IsWorkFile name path = (rest : List ℕ) × (path ≡ name ++ work_folder ++ rest)

-- files outside the folder for work stay as they were
abbrev pub KeepsOutside : List ℕ → Step
KeepsOutside name f g = (path : List ℕ) → ¬ (IsWorkFile name path) → g path ≡ f path

-- the file that a task leaves in the folder for work
pub record LeavesWork (task : Task) (left : JobFile) : Type 0 where
  pub leaves : file_of task ≡ Some left
  pub in_work : folder_of left ≡ work_folder

-- the work file of a recorded task is absent
abbrev pub HasNoWorkOf : List ℕ → Folder → Record → Type 0
HasNoWorkOf name folder entry = (left : JobFile) (pixel : Pixel) → LeavesWork entry.task left → folder (path_of name left pixel) ≡ None

-- the journal that stood in a folder is absent, and so is the work file of each task that it had recorded
pub record IsCleaned (name : List ℕ) (before now : Folder) : Type 0 where
  pub journal : now (journal_file name) ≡ None
  pub work : (header : List ℕ) (records : List Record) → IsHeader header → Stands header records (before (journal_file name)) → All (HasNoWorkOf name now) records

-- the journal stays as it was
abbrev pub KeepsJournal : List ℕ → Step
KeepsJournal name f g = g (journal_file name) ≡ f (journal_file name)

-- the journal stays as it was, or the work file of each of some records is absent
abbrev pub RemovesInOrder : List ℕ → List Record → Step
RemovesInOrder name records f g = (g (journal_file name) ≡ f (journal_file name)) ⊎ All (HasNoWorkOf name g) records

-- The journal goes last: its header and its records stand as they did, or the work file of each task that it had recorded is absent.
abbrev pub CleansInOrder : List ℕ → Step
CleansInOrder name f g =
    (header : List ℕ) (records : List Record) → IsHeader header → Stands header records (f (journal_file name))
    → Stands header records (g (journal_file name)) ⊎ All (HasNoWorkOf name g) records

-- the pixel that stands where a file has none
abbrev pub no_pixel : Pixel
no_pixel = record { order = 0; number = 0 }

abbrev pub properties_file : List ℕ → List ℕ
properties_file name = path_of name file.Properties no_pixel

-- why a folder isn't cleaned: it has no catalogue's properties; or it has them, and its journal is damaged, by the first damaged place
abbrev pub IsNotCleaned : Folder → List ℕ → Refusal → Type 0
IsNotCleaned folder name (refusal.NoCatalogue side) = (side ≡ 1) × (folder (properties_file name) ≡ None)
IsNotCleaned folder name (refusal.Damaged side file.Journal place) =
    (side ≡ 1) × (folder (properties_file name) ≢ None) × (bytes : List ℕ) × (folder (journal_file name) ≡ Some bytes) × IsFirstDamage bytes place
IsNotCleaned folder name refusal.StoreFault = ⊤
IsNotCleaned folder name refusal.Memory = ⊤
IsNotCleaned folder name other = ⊥

-- the refusals of cleaning, whatever the store
abbrev pub MayRefuseCleaning : Refusal → Type 0
MayRefuseCleaning (refusal.NoCatalogue side) = side ≡ 1
MayRefuseCleaning (refusal.Damaged side file.Journal place) = side ≡ 1
MayRefuseCleaning refusal.StoreFault = ⊤
MayRefuseCleaning refusal.Memory = ⊤
MayRefuseCleaning other = ⊥
