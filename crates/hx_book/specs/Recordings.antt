-- What the calls on the files of tasks answer.
use Rattle.std.specs.Prelude.{◌≡◌, ◌++◌, ◌∷◌, ⊤, ℕ, List, [], Ok}
use Rattle.hx_align.specs.declared.plan.PlanRow.{PlanRow}
use Rattle.hx_base.specs.declared.pixel.Pixel.{Pixel}
use Rattle.hx_base.specs.declared.refusal.JobFile.{JobFile}
use Rattle.hx_base.specs.declared.refusal.JobFile.TheVariants as file
use Rattle.hx_base.specs.declared.refusal.Refusal.{Refusal}
use Rattle.hx_base.specs.declared.refusal.Refusal.TheVariants as refusal
use Rattle.hx_base.specs.declared.row.Row.{Row}
use Rattle.hx_base.specs.declared.task.Task.{Task}
use Rattle.hx_hist.specs.Histograms.{Histogram}
use Rattle.hx_journal.specs.declared.record.Record.{Record}
use Rattle.hx_outside.specs.Faults.{Rose}
use Rattle.hx_outside.specs.declared.store.StoreError.{StoreError}
use Rattle.hx_outside.specs.declared.store.StoreError.TheVariants as error
use Rattle.hx_rows.specs.Parquet.{parquet_rows}
use Rattle.hx_spill.specs.Maps.{map_in}
use Rattle.hx_spill.specs.Plans.{plan_in}
use Rattle.hx_spill.specs.Splits.{split_in}
use Rattle.hx_spill.specs.declared.split.Placed.{Placed}
use Rattle.hx_book.specs.Books.{JobMembers}
use Rattle.hx_book.specs.Tasks.{pixel_at}

-- the pixel by which a file has its name: that of a partition, or any
abbrev pub pixel_for : List Pixel → JobFile → Pixel
pixel_for parts (file.Part number) = pixel_at parts number
pixel_for parts (file.Margin number) = pixel_at parts number
pixel_for parts file.Journal = record { order = 0; number = 0 }
pixel_for parts (file.Map input) = record { order = 0; number = 0 }
pixel_for parts file.Plan = record { order = 0; number = 0 }
pixel_for parts (file.Split input) = record { order = 0; number = 0 }
pixel_for parts (file.MarginSplit part) = record { order = 0; number = 0 }
pixel_for parts file.List = record { order = 0; number = 0 }
pixel_for parts file.MarginList = record { order = 0; number = 0 }
pixel_for parts file.MarginProperties = record { order = 0; number = 0 }
pixel_for parts file.Properties = record { order = 0; number = 0 }

abbrev pub of_store : StoreError → Refusal
of_store error.Failed = refusal.StoreFault
of_store error.Memory = refusal.Memory

-- why a file isn't recorded: a fault of the store, or want of memory
abbrev pub IsStoreCause : ℕ → ℕ → Refusal → Type 0
IsStoreCause before now refusal.StoreFault = Rose before now
IsStoreCause before now refusal.Memory = ⊤
IsStoreCause before now _ = ⊥

-- the bytes are a file of its kind, as far as its rows are counted
abbrev pub IsReadable : List ℕ → JobFile → Type 0
IsReadable bytes file.Journal = ⊤
IsReadable bytes (file.Map input) = (hist : Histogram) × (map_in bytes ≡ Ok hist)
IsReadable bytes file.Plan = (plan : List PlanRow) × (plan_in bytes ≡ Ok plan)
IsReadable bytes (file.Split input) = (placed : List Placed) × (split_in bytes ≡ Ok placed)
IsReadable bytes (file.Part number) = (rows : List Row) × (parquet_rows bytes ≡ Ok rows)
IsReadable bytes (file.MarginSplit number) = (placed : List Placed) × (split_in bytes ≡ Ok placed)
IsReadable bytes (file.Margin number) = (rows : List Row) × (parquet_rows bytes ≡ Ok rows)
IsReadable bytes file.List = ⊤
IsReadable bytes file.MarginList = ⊤
IsReadable bytes file.MarginProperties = ⊤
IsReadable bytes file.Properties = ⊤

-- lists and properties have no rows
abbrev pub HasNoRows : JobFile → Type 0
HasNoRows file.List = ⊤
HasNoRows file.MarginList = ⊤
HasNoRows file.MarginProperties = ⊤
HasNoRows file.Properties = ⊤
HasNoRows _ = ⊥

-- the records are those before and one more, of a task and of the length of its file
pub record Recorded (before : List Record) (t : Task) (len : ℕ) (now : List Record) : Type 0 where
  pub entry : Record
  pub task_is : entry.task ≡ t
  pub len_is : entry.len ≡ len
  pub records : now ≡ before ++ entry ∷ []

-- why a file isn't read
abbrev pub IsReadCause : JobMembers → JobFile → ℕ → Refusal → Type 0
IsReadCause j asked now (refusal.Damaged side at place) = (side ≡ 1) × (at ≡ asked) × (place ≡ 0) × (j.premises → ⊥)
IsReadCause j asked now refusal.StoreFault = Rose j.before now
IsReadCause j asked now refusal.Memory = ⊤
IsReadCause j asked now _ = ⊥
