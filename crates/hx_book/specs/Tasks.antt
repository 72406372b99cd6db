-- A job as plain data, its tasks by kind and number, and the files that they leave.
use Rattle.std.specs.Prelude.{◌≡◌, ◌≤◌, ◌<◌, ◌==◌, ◌++◌, ◌∷◌, ℕ, List, [], Contains, if◌then◌else◌, length, map, slice_index_or, Option, Some, None, codes}
use Rattle.hx_align.specs.Plans.{pixels_of}
use Rattle.hx_align.specs.declared.plan.PlanRow.{PlanRow}
use Rattle.hx_base.specs.Paths.{path_of}
use Rattle.hx_base.specs.Tasks.{file_of}
use Rattle.hx_base.specs.declared.pixel.Pixel.{Pixel}
use Rattle.hx_base.specs.declared.refusal.JobFile.{JobFile}
use Rattle.hx_base.specs.declared.row.Row.{Row}
use Rattle.hx_base.specs.declared.settings.Settings.{Settings}
use Rattle.hx_base.specs.declared.task.Task.{Task}
use Rattle.hx_inputs.specs.Inputs.{AreRows}
use Rattle.hx_spill.specs.Values.{IsPlanFor}

-- an input by its name and its bytes
pub record InputData : Type 0 where
  pub name : List ℕ
  pub bytes : List ℕ

pub record JobData : Type 0 where
  pub settings : Settings
  pub inputs : List InputData

abbrev pub names_of : JobData → List (List ℕ)
names_of job = map (λ input. input.name) job.inputs

abbrev pub contents_of : JobData → List (List ℕ)
contents_of job = map (λ input. input.bytes) job.inputs

-- the rows of all inputs, one input after another: none are where an input can't be read
abbrev pub AreAllRows : JobData → List Row → Type 0
AreAllRows job rows = AreRows (names_of job) (contents_of job) rows

-- all rows, and the plan by which they are cut: none is where a pixel is overfull or there are too many partitions
pub record IsCut (job : JobData) (rows : List Row) (plan : List PlanRow) : Type 0 where
  pub read : AreAllRows job rows
  pub planned : IsPlanFor job.settings.lowest job.settings.highest job.settings.threshold rows plan

-- the job's partitions
pub record AreParts (job : JobData) (parts : List Pixel) : Type 0 where
  pub rows : List Row
  pub plan : List PlanRow
  pub cut : IsCut job rows plan
  pub pixels : parts ≡ pixels_of plan

abbrev pub task : ℕ → ℕ → Task
task kind number = record { kind = kind; number = number }

-- how many tasks of a kind there are: map, plan, split, reduce, margin split, margin reduce, lists, properties
abbrev pub count_of : (inputs partitions kind : ℕ) → ℕ
count_of inputs partitions kind =
    if kind == 1 then inputs
    else if kind == 2 then 1
    else if kind == 3 then inputs
    else if kind == 4 then partitions
    else if kind == 5 then partitions
    else if kind == 6 then partitions
    else if kind == 7 then 3
    else if kind == 8 then 1
    else 0

-- the kinds whose tasks are the partitions'
abbrev pub GoesByParts : ℕ → Type 0
GoesByParts kind = (4 ≤ kind) × (kind ≤ 6)

-- the job has such a task
pub record IsTask (job : JobData) (t : Task) : Type 0 where
  pub parts : List Pixel
  pub are_parts : GoesByParts t.kind → AreParts job parts
  pub numbered : t.number < count_of (length job.inputs) (length parts) t.kind

-- all tasks of a kind are among these
abbrev pub HasKind : JobData → List Task → ℕ → Type 0
HasKind job done kind = (number : ℕ) → IsTask job (task kind number) → Contains done (task kind number)

-- and all of the kinds before one
abbrev pub HasKindsBefore : JobData → List Task → ℕ → Type 0
HasKindsBefore job done kind = (earlier : ℕ) → 1 ≤ earlier → earlier < kind → HasKind job done earlier

-- a task of the job that isn't done, while all of earlier kinds are
pub record IsNext (job : JobData) (done : List Task) (t : Task) : Type 0 where
  pub is_task : IsTask job t
  pub is_left : Contains done t → ⊥
  pub in_turn : HasKindsBefore job done t.kind

-- tasks follow the stages, without repeats, after those that are done
abbrev pub Follow : JobData → List Task → List Task → Type 0
Follow job done [] = Unit {0}
Follow job done (t ∷ ts) = IsNext job done t × Follow job (done ++ t ∷ []) ts

-- the partition of a number; any where there is none
abbrev pub pixel_at : List Pixel → ℕ → Pixel
pixel_at parts number = slice_index_or parts number (record { order = 0; number = 0 })

-- the name of a task's file, by the catalogue's name and its partitions
abbrev pub path_in : List ℕ → List Pixel → ℕ → Option JobFile → List ℕ
path_in name parts number None = []
path_in name parts number (Some file) = path_of name file (pixel_at parts number)

abbrev pub task_path : List ℕ → List Pixel → Task → List ℕ
task_path name parts t = path_in name parts t.number (file_of t)

-- the first task of the last kind, and its file
abbrev pub properties_task : Task
properties_task = task 8 0

abbrev pub properties_path : List ℕ → List ℕ
properties_path name = name ++ codes "/" ++ codes "hats.properties"
