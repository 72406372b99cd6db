-- The folders from which a job can be taken up again.
use Rattle.std.specs.Prelude.{◌≡◌, ◌≢◌, ◌⊎◌, ℕ, List, [], Contains, length, map, Some, None}
use Rattle.hx_base.specs.declared.pixel.Pixel.{Pixel}
use Rattle.hx_base.specs.declared.task.Task.{Task}
use Rattle.hx_journal.specs.Headers.{header_of, heading_of}
use Rattle.hx_journal.specs.Journal.{Stands, journal_file}
use Rattle.hx_journal.specs.declared.record.Record.{Record}
use Rattle.hx_outside.specs.Folders.{Folder}
use Rattle.hx_book.specs.Tasks.{JobData, AreParts, Follow, GoesByParts, HasKindsBefore, names_of, properties_path, properties_task, task_path}
use Rattle.hx_book.specs.Values.{IsValue, rows_told}

-- the header of the job's journal
abbrev pub header_bytes : JobData → List ℕ
header_bytes job = header_of (heading_of job.settings (map (λ input. length input.bytes) job.inputs) (names_of job))

-- the journal has the job's header and these records
abbrev pub JournalIs : JobData → Folder → List Record → Type 0
JournalIs job f records = Stands (header_bytes job) records (f (journal_file job.settings.name))

abbrev pub done_of : List Record → List Task
done_of records = map (λ r. r.task) records

-- a recorded task's file stands with its length, and reads as the task's value
pub record IsFiled (job : JobData) (f : Folder) (r : Record) : Type 0 where
  pub parts : List Pixel
  pub are_parts : GoesByParts r.task.kind → AreParts job parts
  pub bytes : List ℕ
  pub there : f (task_path job.settings.name parts r.task) ≡ Some bytes
  pub long : length bytes ≡ r.len
  pub value : IsValue job r.task bytes

-- a record has the number of its task's value
pub record HasNumber (job : JobData) (r : Record) : Type 0 where
  pub bytes : List ℕ
  pub value : IsValue job r.task bytes
  pub number : r.rows ≡ rows_told r.task bytes

-- the kinds whose files lie among the work files
abbrev pub IsWork : ℕ → Type 0
IsWork kind = (kind ≡ 1) ⊎ (kind ≡ 2) ⊎ (kind ≡ 3) ⊎ (kind ≡ 5)

-- nothing is asked any more of a task's file: the catalogue's properties stand, all other tasks are recorded, and it is a work file
pub record IsFree (job : JobData) (f : Folder) (done : List Task) (t : Task) : Type 0 where
  pub work : IsWork t.kind
  pub whole : HasKindsBefore job done 8
  pub bytes : List ℕ
  pub there : f (properties_path job.settings.name) ≡ Some bytes
  pub value : IsValue job properties_task bytes

-- nothing of the job is there
pub record IsFresh (job : JobData) (f : Folder) : Type 0 where
  pub no_journal : f (journal_file job.settings.name) ≡ None
  pub no_properties : f (properties_path job.settings.name) ≡ None

-- the job is under way
pub record IsUnderWay (job : JobData) (f : Folder) (records : List Record) : Type 0 where
  pub journal_is : JournalIs job f records
  pub follow : Follow job [] (done_of records)
  pub files : (r : Record) → Contains records r → IsFree job f (done_of records) r.task ⊎ IsFiled job f r
  pub numbers : (r : Record) → Contains records r → HasNumber job r
  -- the catalogue's properties stand only where all other tasks are recorded
  pub last : f (properties_path job.settings.name) ≢ None → HasKindsBefore job (done_of records) 8

abbrev pub IsResumable : JobData → Folder → Type 0
IsResumable job f = IsFresh job f ⊎ ((records : List Record) × IsUnderWay job f records)

-- a task is recorded in a folder's journal
abbrev pub IsRecordedIn : JobData → Task → Folder → Type 0
IsRecordedIn job t f = (records : List Record) × JournalIs job f records × Contains (done_of records) t

-- each task's file reads as its value: that of a finished job
abbrev pub IsFiledWhole : JobData → Folder → Type 0
IsFiledWhole job f = (records : List Record) × IsUnderWay job f records × HasKindsBefore job (done_of records) 9
