-- What a book stands for: the job and the outside as they were at its opening, what contracts see of it, and what its type keeps.
use Rattle.std.specs.Prelude.{◌≡◌, ◌≢◌, ◌≤◌, ◌<◌, ◌==◌, ◌⊎◌, ◌++◌, ◌^◌, ◌-◌, ⊤, ℕ, List, [], Bool, true, false, Contains, IfSome, IsSome, length, map, min, slice_get, slice_index_or, sum_by, Option, Some, None, Ok, Err, codes}
use Rattle.std.specs.List.{filter}
use Rattle.hx_align.specs.Plans.{pixels_of}
use Rattle.hx_align.specs.Refusals.{IsCutRefusal}
use Rattle.hx_align.specs.declared.plan.PlanRow.{PlanRow}
use Rattle.hx_base.specs.FileWords.{IsFileWord}
use Rattle.hx_base.specs.Limits.{FitsLimits, most_bytes, most_inputs}
use Rattle.hx_base.specs.Names.{IsName}
use Rattle.hx_base.specs.Paths.{path_of}
use Rattle.hx_base.specs.Pixels.{count_in}
use Rattle.hx_base.specs.declared.pixel.Pixel.{Pixel}
use Rattle.hx_base.specs.declared.refusal.JobFile.{JobFile}
use Rattle.hx_base.specs.declared.refusal.JobFile.TheVariants as job_file
use Rattle.hx_base.specs.declared.refusal.Refusal.{Refusal}
use Rattle.hx_base.specs.declared.refusal.Refusal.TheVariants as refusal
use Rattle.hx_base.specs.declared.row.Row.{Row}
use Rattle.hx_base.specs.declared.settings.Settings.{Settings}
use Rattle.hx_base.specs.declared.task.Task.{Task}
use Rattle.hx_inputs.specs.Sources.{HasLength}
use Rattle.hx_journal.specs.Differences.{DifferAt}
use Rattle.hx_journal.specs.Headers.{IsHeader}
use Rattle.hx_journal.specs.Journal.{IsAtRest, Opened, Stands, Trims, journal_file}
use Rattle.hx_journal.specs.Refusals.{IsOpened}
use Rattle.hx_journal.specs.declared.record.Record.{Record}
use Rattle.hx_journal.specs.declared.refusal.JournalRefusal.{JournalRefusal}
use Rattle.hx_journal.specs.declared.refusal.JournalRefusal.TheVariants as why
use Rattle.hx_outside.specs.Disk.{DiskMembers}
use Rattle.hx_outside.specs.Faults.{HasFailed, Rose}
use Rattle.hx_outside.specs.Folders.{Folder}
use Rattle.hx_outside.specs.Sources.{SourceMembers}
use Rattle.hx_rows.specs.Reading.{rows_of}
use Rattle.hx_spill.specs.Plans.{plan_in}
use Rattle.hx_book.specs.Tasks.{AreAllRows, AreParts, Follow, InputData, IsCut, JobData, count_of, properties_path, task}
use Rattle.hx_book.specs.Resumable.{HasNumber, IsFresh, IsRecordedIn, IsResumable, done_of, header_bytes}
use Rattle.hx_book.specs.Values.{AreMargins, IsValue}
use Rattle.hx_book.specs.declared.answers.Kept.{Kept}

-- ---- the job at its opening

-- an input as it was given: its name, its bytes where it tells them, and its count of faults
pub record Origin : Type 0 where
  pub label : List ℕ
  pub told : Option (List ℕ)
  pub faults : ℕ

abbrev pub origin_of : {Src : Type 0} → SourceMembers Src → Src → Origin
origin_of source s = record { label = source.label s; told = source.told s; faults = source.faults s }

-- the bytes that an input tells, none where it tells nothing
abbrev pub told_bytes : Option (List ℕ) → List ℕ
told_bytes None = []
told_bytes (Some bytes) = bytes

abbrev pub input_of : Origin → InputData
input_of origin = record { name = origin.label; bytes = told_bytes origin.told }

-- what a book's contracts name of its job and of the outside at the opening
pub record JobMembers : Type 1 where
  pub settings : Settings
  pub origins : List Origin
  -- the store tells how it reads and what a crash may leave of it
  pub tells : Type 0
  -- the inputs tell their bytes too, and each folder that a crash might have left was resumable
  pub premises : Type 0
  -- those folders
  pub opening : Folder → Type 0
  -- the store's moment, and its count of faults
  pub moment : ℕ
  pub before : ℕ

abbrev pub job_of : JobMembers → JobData
job_of j = record { settings = j.settings; inputs = map input_of j.origins }

-- the names in the members are those of these arguments
pub record AreNamed {Src S : Type 0} (j : JobMembers) (source : SourceMembers Src) (d : DiskMembers S) (settings : Settings) (inputs : List Src) (store : S) : Type 0 where
  pub settings_are : j.settings ≡ settings
  pub origins_are : j.origins ≡ map (origin_of source) inputs
  pub moment_is : j.moment ≡ d.moment store
  pub before_is : j.before ≡ d.faults store
  pub tells_it : j.tells → d.tells store
  pub opening_is : (f : Folder) → d.may_leave store f → j.opening f
  pub with_tells : j.premises → j.tells
  pub told : j.premises → (n : ℕ) (origin : Origin) → slice_get j.origins n ≡ Some origin → IsSome origin.told
  pub resumable : j.premises → (f : Folder) → j.opening f → IsResumable (job_of j) f

-- ---- folders

-- a name in one of the three folders of a catalogue's name
abbrev pub IsInside : List ℕ → List ℕ → Type 0
IsInside name n = (rest : List ℕ) × ((n ≡ name ++ codes ".work/" ++ rest) ⊎ (n ≡ name ++ codes "/" ++ rest) ⊎ (n ≡ name ++ codes "_margin/" ++ rest))

-- a folder has each file outside of them as one that a crash might have left at the opening
pub record IsUntouched (j : JobMembers) (f : Folder) : Type 0 where
  pub from : Folder
  pub was : j.opening from
  pub others : (n : List ℕ) → ¬ (IsInside j.settings.name n) → f n ≡ from n

-- a folder is resumable, and has the tasks recorded that all folders at the opening had
pub record IsGoodFor (j : JobMembers) (f : Folder) : Type 0 where
  pub resumable : IsResumable (job_of j) f
  pub recorded : (t : Task) → ((g : Folder) → j.opening g → IsRecordedIn (job_of j) t g) → IsRecordedIn (job_of j) t f

-- ---- inputs

-- a source is that of an input: its name, a file's word, and its bytes, and its count of faults did not fall
pub record IsHome {Src : Type 0} (j : JobMembers) (source : SourceMembers Src) (number : ℕ) (s : Src) : Type 0 where
  pub origin : Origin
  pub there : slice_get j.origins number ≡ Some origin
  pub name : source.label s ≡ origin.label
  pub word : IsFileWord origin.label
  pub bytes : source.told s ≡ origin.told
  pub later : origin.faults ≤ source.faults s

-- all sources, each in its place
pub record AreBack {Src : Type 0} (j : JobMembers) (source : SourceMembers Src) (inputs : List Src) : Type 0 where
  pub count : length inputs ≡ length j.origins
  pub each : (n : ℕ) (s : Src) → slice_get inputs n ≡ Some s → IsHome j source n s

-- the kinds whose tasks take an input
abbrev pub TakesInput : ℕ → Type 0
TakesInput kind = (kind ≡ 1) ⊎ (kind ≡ 3)

-- a source was put in its place
pub record IsPut {Src : Type 0} (number : ℕ) (own : Option Src) (homes more : List (Option Src)) : Type 0 where
  pub long : length more ≡ length homes
  pub others : (n : ℕ) → (n ≡ number → ⊥) → slice_get more n ≡ slice_get homes n
  pub there : number < length homes → (s : Src) → own ≡ Some s → slice_get more number ≡ Some (Some s)
  pub none : own ≡ None → more ≡ homes

-- a claimed task carries the source of its input where it takes one, and else none
pub record IsOwn {Src : Type 0} (j : JobMembers) (source : SourceMembers Src) (t : Task) (own : Option Src) : Type 0 where
  pub takes : TakesInput t.kind → (s : Src) × (own ≡ Some s) × IsHome j source t.number s
  pub none : (TakesInput t.kind → ⊥) → own ≡ None

-- ---- refusals

-- an input can't be read: its first fault
pub record IsBadInput (j : JobMembers) (number row why : ℕ) : Type 0 where
  pub origin : Origin
  pub there : slice_get j.origins number ≡ Some origin
  pub fault : IfSome origin.told (λ bytes. rows_of origin.label bytes ≡ Err (row, why))

-- all rows can be read, and can't be cut
pub record IsNotCut (j : JobMembers) (r : Refusal) : Type 0 where
  pub rows : List Row
  pub are : AreAllRows (job_of j) rows
  pub refused : IsCutRefusal (λ pixel. count_in pixel rows) j.settings.lowest j.settings.highest j.settings.threshold (Some r)

-- why a task is refused by what it works on
abbrev pub IsTaskCause : JobMembers → Task → Refusal → Type 0
IsTaskCause j t (refusal.BadInput input row why) = (input ≡ t.number) × TakesInput t.kind × IsBadInput j input row why
IsTaskCause j t (refusal.Overfull pixel count) = (t.kind ≡ 2) × (j.premises → IsNotCut j (refusal.Overfull pixel count))
IsTaskCause j t (refusal.TooMany what found limit) = (t.kind ≡ 2) × (what ≡ 3) × (j.premises → IsNotCut j (refusal.TooMany what found limit))
IsTaskCause j t (refusal.InputChanged input pixel kept found) = (input ≡ t.number) × (t.kind ≡ 3) × (j.premises → ⊥)
IsTaskCause j t (refusal.Damaged side file place) = j.premises → ⊥
IsTaskCause j t _ = ⊥

-- why anything is refused by the outside: a fault of the store, one of the source of an input, or want of memory
abbrev pub IsOutsideCause : {Src : Type 0} → JobMembers → SourceMembers Src → (IsAt : ℕ → Src → Type 0) → (faults : ℕ) → Refusal → Type 0
IsOutsideCause j source IsAt faults refusal.StoreFault = Rose j.before faults
IsOutsideCause {Src} j source IsAt faults (refusal.InputFault input) = (s : Src) × (origin : Origin) × IsAt input s × (slice_get j.origins input ≡ Some origin) × Rose origin.faults (source.faults s)
IsOutsideCause j source IsAt faults refusal.Memory = ⊤
IsOutsideCause j source IsAt faults _ = ⊥

-- a refusal that the outside gives
abbrev pub is_outside : Refusal → Bool
is_outside refusal.StoreFault = true
is_outside (refusal.InputFault input) = true
is_outside refusal.Memory = true
is_outside _ = false

-- ---- what contracts see

pub record Shown : Type 0 where
  pub settings : Settings
  pub records : List Record
  pub inputs : ℕ
  pub partitions : ℕ
  pub stage : ℕ
  pub from : ℕ
  pub held : Option ℕ
  pub kept : Option Kept
  pub first : Option Refusal
  pub faults : ℕ

-- how many tasks a kind has, as far as the partitions are known
abbrev pub count_in_stage : Shown → ℕ → ℕ
count_in_stage b kind = count_of b.inputs b.partitions kind

-- a task of the open stage is ready
abbrev pub HasReady : Shown → Type 0
HasReady b = b.from < count_in_stage b b.stage

-- ---- what the type keeps

pub record Inside (Src S : Type 0) : Type 0 where
  pub settings : Settings
  pub homes : List (Option Src)
  pub store : S
  pub journal : Opened
  pub parts : List Pixel
  pub partitions : ℕ
  pub stage : ℕ
  pub from : ℕ
  pub flags : List Bool
  pub held : Option ℕ
  pub kept : Option Kept
  pub first : Option Refusal

-- a refusal is kept of a task of this number or an earlier one
abbrev pub IsRefusedBy : Option Kept → ℕ → Type 0
IsRefusedBy kept number = (k : Kept) × (kept ≡ Some k) × (k.number ≤ number)

-- the tasks of earlier kinds are recorded; of the open stage those before a place are recorded, held or refused, and those from it on are
-- flagged where they are recorded
pub record IsScheduled (inputs partitions : ℕ) (done : List Task) (stage from : ℕ) (flags : List Bool) (held : Option ℕ) (kept : Option Kept) : Type 0 where
  pub some : 1 ≤ stage
  pub within : stage ≤ 9
  pub earlier : (kind number : ℕ) → 1 ≤ kind → kind < stage → number < count_of inputs partitions kind → Contains done (task kind number)
  pub no_later : (t : Task) → Contains done t → t.kind ≤ stage
  pub flagged : (n : ℕ) → from ≤ n → n < count_of inputs partitions stage → slice_index_or flags n false ≡ true → Contains done (task stage n)
  pub unflagged : (n : ℕ) → from ≤ n → n < count_of inputs partitions stage → slice_index_or flags n false ≡ false → Contains done (task stage n) → ⊥
  pub front : from < count_of inputs partitions stage → slice_index_or flags from false ≡ false
  pub passed : (n : ℕ) → n < from → n < count_of inputs partitions stage → Contains done (task stage n) ⊎ (held ≡ Some n) ⊎ IsRefusedBy kept n
  pub held_is : (n : ℕ) → held ≡ Some n → (n < from) × (n < count_of inputs partitions stage) × (Contains done (task stage n) → ⊥)
  pub kept_before : (k : Kept) → kept ≡ Some k → k.number < from
  pub kept_left : (k : Kept) → kept ≡ Some k → (k.number < count_of inputs partitions stage) × (Contains done (task stage k.number) → ⊥)
  pub kept_below : (n : ℕ) (k : Kept) → held ≡ Some n → kept ≡ Some k → k.number < n
  pub unfinished : (stage ≡ 9) ⊎ (from < count_of inputs partitions stage) ⊎ IsSome held ⊎ IsSome kept

-- the partitions that are known once the plan is recorded
pub record IsPlanned (j : JobMembers) (partitions : ℕ) : Type 0 where
  pub parts : List Pixel
  pub are : AreParts (job_of j) parts
  pub count : length parts ≡ partitions

-- the disk since the opening
pub record OnDisk {S : Type 0} (j : JobMembers) (d : DiskMembers S) (store : S) : Type 0 where
  pub told : d.tells store
  pub later : j.moment ≤ d.moment store
  pub untouched : (f : Folder) → d.left_since store j.moment f → IsUntouched j f

pub record IsFitting {Src S : Type 0} (j : JobMembers) (b : Inside Src S) : Type 0 where
  pub settings_are : b.settings ≡ j.settings
  pub name : IsName j.settings.name
  pub limits : FitsLimits j.settings
  pub count : length b.homes ≡ length j.origins
  pub some : 1 ≤ length j.origins
  pub few : length j.origins ≤ most_inputs
  pub not_many : b.partitions ≤ 100000
  pub heading : j.premises → IsHeader (header_bytes (job_of j))

-- while no refusal of the outside is kept
pub record IsSound {Src S : Type 0} (j : JobMembers) (d : DiskMembers S) (b : Inside Src S) : Type 0 where
  pub scheduled : IsScheduled (length b.homes) b.partitions (done_of b.journal.records) b.stage b.from b.flags b.held b.kept
  pub planned : j.premises → 3 ≤ b.stage → IsPlanned j b.partitions
  pub parts_are : j.premises → 3 ≤ b.stage → b.stage ≤ 7 → AreParts (job_of j) b.parts
  pub file_is : b.journal.file ≡ journal_file j.settings.name
  pub header_is : j.premises → b.journal.header ≡ header_bytes (job_of j)
  pub rest : j.tells → IsAtRest d b.store b.journal.file b.journal.header b.journal.records

pub record IsKept {Src S : Type 0} (j : JobMembers) (source : SourceMembers Src) (d : DiskMembers S) (b : Inside Src S) : Type 0 where
  pub fitting : IsFitting j b
  pub homes : (n : ℕ) (s : Src) → slice_get b.homes n ≡ Some (Some s) → IsHome j source n s
  pub away : (n : ℕ) → slice_get b.homes n ≡ Some None → (b.held ≡ Some n) × TakesInput b.stage
  pub gone : (n : ℕ) → b.held ≡ Some n → TakesInput b.stage → slice_get b.homes n ≡ Some None
  pub with_tells : j.premises → j.tells
  pub disk : j.tells → OnDisk j d b.store
  pub good : j.premises → (f : Folder) → d.left_since b.store j.moment f → IsGoodFor j f
  pub count : j.before ≤ d.faults b.store
  pub sound : b.first ≡ None → IsSound j d b
  pub first_is : IfSome b.first (IsOutsideCause j source (λ n s. slice_get b.homes n ≡ Some (Some s)) (d.faults b.store))
  pub kept_is : IfSome b.kept (λ k. IsTaskCause j (task b.stage k.number) k.refusal)

-- a book is being opened: what is on the disk so far
pub record IsOpening {S : Type 0} (j : JobMembers) (d : DiskMembers S) (store : S) : Type 0 where
  pub with_tells : j.premises → j.tells
  pub disk : j.tells → OnDisk j d store
  pub good : j.premises → (f : Folder) → d.left_since store j.moment f → IsGoodFor j f
  pub count : j.before ≤ d.faults store

-- an input has so many bytes, where it tells them
abbrev pub IsLong : JobMembers → ℕ → Type 0
IsLong j count = (number : ℕ) × (origin : Origin) × (slice_get j.origins number ≡ Some origin) × IfSome origin.told (λ bytes. length bytes ≡ count)

-- a file that is read when a book opens
abbrev pub IsKeptFile : ℕ → JobFile → Type 0
IsKeptFile side file = (side ≡ 1) × ((file ≡ job_file.Journal) ⊎ (file ≡ job_file.Plan))

-- why a book wasn't opened
abbrev pub IsBackCause : {Src : Type 0} → JobMembers → SourceMembers Src → List Src → ℕ → Refusal → Type 0
IsBackCause j source inputs faults (refusal.TooMany what found limit) = (what ≡ 2) × (limit ≡ most_bytes) × (limit < found) × IsLong j found
IsBackCause j source inputs faults refusal.NameTaken = j.premises → ⊥
IsBackCause j source inputs faults (refusal.OtherJob place kept asked) = j.premises → ⊥
IsBackCause j source inputs faults (refusal.Damaged side file place) = IsKeptFile side file × (j.premises → ⊥)
IsBackCause j source inputs faults r = IsOutsideCause j source (λ n s. slice_get inputs n ≡ Some s) faults r

-- ---- the opening of a book

-- a task of the open stage that isn't recorded, as the flags tell
pub record IsOpenTask (inputs partitions stage from : ℕ) (flags : List Bool) (t : Task) : Type 0 where
  pub kind_is : t.kind ≡ stage
  pub above : from ≤ t.number
  pub below : t.number < count_of inputs partitions stage
  pub unflagged : slice_index_or flags t.number false ≡ false

-- a journal's records are those of a job that is under way: in turn, each with its task's number
pub record AreInTurn (job : JobData) (records : List Record) : Type 0 where
  pub follow : Follow job [] (done_of records)
  pub numbers : (r : Record) → Contains records r → HasNumber job r

-- why the work files of a name don't open a book
abbrev pub IsFoundCause : JobMembers → ℕ → Refusal → Type 0
IsFoundCause j faults refusal.NameTaken = j.premises → ⊥
IsFoundCause j faults (refusal.OtherJob place kept asked) = j.premises → ⊥
IsFoundCause j faults (refusal.Damaged side file place) = IsKeptFile side file × (j.premises → ⊥)
IsFoundCause j faults refusal.StoreFault = Rose j.before faults
IsFoundCause j faults refusal.Memory = ⊤
IsFoundCause j faults _ = ⊥

-- why a journal isn't opened, as a refusal
abbrev pub of_journal : JournalRefusal → Refusal
of_journal why.Absent = refusal.Damaged 1 job_file.Journal 0
of_journal (why.Damaged place) = refusal.Damaged 1 job_file.Journal place
of_journal why.StoreFault = refusal.StoreFault
of_journal why.Memory = refusal.Memory

-- refusals that come before a file is changed, but for what stands behind a journal's first closed gate
abbrev pub IsEarly : Refusal → Type 0
IsEarly (refusal.TooMany what found limit) = ⊤
IsEarly refusal.NameTaken = ⊤
IsEarly (refusal.OtherJob place kept asked) = ⊤
IsEarly _ = ⊥

-- why the lengths of inputs aren't known, or which is too long
abbrev pub IsLengthCause : {Src : Type 0} → SourceMembers Src → ℕ → Src → Src → Refusal → Type 0
IsLengthCause source number before now (refusal.InputFault input) = (input ≡ number) × HasFailed source.faults before now
IsLengthCause source number before now (refusal.TooMany what found limit) = (what ≡ 2) × (limit ≡ most_bytes) × (limit < found) × IfSome (source.told before) (λ bytes. length bytes ≡ found)
IsLengthCause source number before now _ = ⊥

abbrev pub IsLengthsCause : {Src : Type 0} → SourceMembers Src → List Src → List Src → Refusal → Type 0
IsLengthsCause {Src} source before now (refusal.InputFault input) = (input < length before) × ((e : Src) → HasFailed source.faults (slice_index_or before input e) (slice_index_or now input e))
IsLengthsCause source before now (refusal.TooMany what found limit) = (what ≡ 2) × (limit ≡ most_bytes) × (limit < found) × HasLength source before found
IsLengthsCause source before now refusal.Memory = ⊤
IsLengthsCause source before now _ = ⊥

-- the header that a journal has, and where the job's first differs from it
abbrev pub IsOther : List ℕ → List ℕ → Refusal → Type 0
IsOther header own (refusal.OtherJob place kept asked) = DifferAt header own place kept asked
IsOther header own _ = ⊥

-- the plan's file stands and reads as the job's plan, with so many partitions
pub record HasPlan (job : JobData) (name : List ℕ) (partitions : ℕ) (f : Folder) : Type 0 where
  pub bytes : List ℕ
  pub there : f (path_of name job_file.Plan (record { order = 0; number = 0 })) ≡ Some bytes
  pub plan : List PlanRow
  pub reads : plan_in bytes ≡ Ok plan
  pub are : AreParts job (pixels_of plan)
  pub count : length plan ≡ partitions

-- a record doesn't follow, or want of memory
abbrev pub IsWalkCause : Refusal → Type 0
IsWalkCause (refusal.Damaged side file place) = IsKeptFile side file
IsWalkCause refusal.Memory = ⊤
IsWalkCause _ = ⊥

-- since the opening at most a journal was cut behind its first closed gate
abbrev pub IsOnlyTrimmed : {S : Type 0} → JobMembers → DiskMembers S → S → Type 0
IsOnlyTrimmed j d store = (f : Folder) → d.left_since store j.moment f → (g : Folder) × j.opening g × Trims (journal_file j.settings.name) g f

-- a journal that was found, and how far its records go
pub record IsFound {S : Type 0} (j : JobMembers) (d : DiskMembers S) (store : S) (inputs : ℕ) (journal : Opened) (parts : List Pixel) (partitions stage from : ℕ) (flags : List Bool) : Type 0 where
  pub scheduled : IsScheduled inputs partitions (done_of journal.records) stage from flags None None
  pub planned : j.premises → 3 ≤ stage → IsPlanned j partitions
  pub parts_are : j.premises → 3 ≤ stage → stage ≤ 7 → AreParts (job_of j) parts
  pub not_many : partitions ≤ 100000
  pub file_is : journal.file ≡ journal_file j.settings.name
  pub header_is : j.premises → journal.header ≡ header_bytes (job_of j)
  pub rest : j.tells → IsAtRest d store journal.file journal.header journal.records

-- ---- the end of a book

-- the first refusal of the outside, or else that of the least task
abbrev pub kept_refusal : Option Refusal → Option Kept → Option Refusal
kept_refusal (Some r) kept = Some r
kept_refusal None None = None
kept_refusal None (Some k) = Some k.refusal

-- a task was refused by what it works on, while each earlier one of its kind has a value
pub record IsTaskRefusal (j : JobMembers) (r : Refusal) : Type 0 where
  pub refused : Task
  pub cause : IsTaskCause j refused r
  pub earlier : j.premises → (n : ℕ) → n < refused.number → (bytes : List ℕ) × IsValue (job_of j) (task refused.kind n) bytes

-- why an import was refused
abbrev pub IsClosedCause : {Src : Type 0} → JobMembers → SourceMembers Src → List Src → ℕ → Refusal → Type 0
IsClosedCause j source inputs faults r = IsOutsideCause j source (λ n s. slice_get inputs n ≡ Some s) faults r ⊎ IsTaskRefusal j r

abbrev pub of_kind : ℕ → List Record → List Record
of_kind kind records = filter (λ r. r.task.kind == kind) records

-- the rows of records of a kind, and their number, each up to the last that a number holds
abbrev pub rows_of_kind : ℕ → List Record → ℕ
rows_of_kind kind records = min (sum_by (λ r. r.rows) (of_kind kind records)) (2 ^ 64 - 1)

abbrev pub count_of_kind : ℕ → List Record → ℕ
count_of_kind kind records = min (length (of_kind kind records)) (2 ^ 32 - 1)

-- the rows of all inputs, how many partitions the job has, and the rows of their margins
pub record AreNumbers (job : JobData) (rows partitions margin : ℕ) : Type 0 where
  pub all : List Row
  pub plan : List PlanRow
  pub cut : IsCut job all plan
  pub rows_are : rows ≡ length all
  pub partitions_are : partitions ≡ length plan
  pub margin_is : (margins : List (List Row)) → AreMargins job.settings.margin_order all plan margins → margin ≡ sum_by length margins

-- ---- what a folder shows of other jobs

-- the name has a catalogue of which no journal speaks
pub record IsTaken (name : List ℕ) (f : Folder) : Type 0 where
  pub no_journal : f (journal_file name) ≡ None
  pub properties : IsSome (f (properties_path name))

-- a journal with another header stands
pub record HasOther (name header : List ℕ) (f : Folder) : Type 0 where
  pub kept : List ℕ
  pub heading : IsHeader kept
  pub records : List Record
  pub stands : Stands kept records (f (journal_file name))
  pub apart : kept ≢ header

-- a name can't be had by a job with this header
abbrev pub IsBarred : (name header : List ℕ) → Folder → Type 0
IsBarred name header f = IsTaken name f ⊎ HasOther name header f

-- what shows it: no journal and a catalogue's properties, or a header that first differs at that place, with these bytes; and where a file
-- is damaged, the name isn't taken
abbrev pub ShowsWhy : (name header : List ℕ) → Folder → Refusal → Type 0
ShowsWhy name header f refusal.NameTaken = IsTaken name f
ShowsWhy name header f (refusal.OtherJob place kept asked) = (other : HasOther name header f) × DifferAt other.kept header place kept asked
ShowsWhy name header f (refusal.Damaged side file place) = IsTaken name f → ⊥
ShowsWhy name header f _ = ⊤

-- a journal has this header and no records
pub record IsNew (header : List ℕ) (journal : Opened) : Type 0 where
  pub header_is : journal.header ≡ header
  pub empty : journal.records ≡ []

-- a journal is that of a folder, or the folder has neither a journal nor properties, and the journal is new
abbrev pub IsOpenedFrom : JobData → (header : List ℕ) → Folder → Opened → Type 0
IsOpenedFrom job header f journal = IsOpened (journal_file job.settings.name) (f (journal_file job.settings.name)) journal ⊎ (IsFresh job f × IsNew header journal)

-- records are those of a folder's journal, or the folder has neither a journal nor properties, and there are none
abbrev pub AreKept : JobData → Folder → List Record → Type 0
AreKept job f records = ((header : List ℕ) × IsHeader header × Stands header records (f (journal_file job.settings.name))) ⊎ (IsFresh job f × (records ≡ []))
