-- A worker at a task: what it knows of the book, and why the task fails.
use Rattle.std.specs.Prelude.{◌≡◌, ◌≤◌, ℕ, None, Option, Some, length, slice_get}
use Rattle.hx_base.specs.Limits.{FitsLimits, most_inputs}
use Rattle.hx_base.specs.declared.refusal.Refusal.{Refusal}
use Rattle.hx_base.specs.declared.refusal.Refusal.TheVariants as refusal
use Rattle.hx_base.specs.declared.task.Task.{Task}
use Rattle.hx_book.specs.Books.{JobMembers, Origin, Shown, job_of}
use Rattle.hx_book.specs.Resumable.{done_of}
use Rattle.hx_book.specs.Tasks.{IsNext}
use Rattle.hx_outside.specs.Faults.{Rose}
use Rattle.hx_outside.specs.Sources.{SourceMembers}
use Rattle.hx_import.specs.Given.{InputsTell}
use Rattle.hx_import.specs.Made.{IsRefused}

-- the job is one that may be asked for
pub record IsAsked (j : JobMembers) : Type 0 where
  pub fits : FitsLimits j.settings
  pub few : length j.origins ≤ most_inputs
  pub told : InputsTell j

-- a worker holds a task of a book, and no refusal of the outside is kept
pub record IsAtWork (j : JobMembers) (b : Shown) (t : Task) : Type 0 where
  pub settings : b.settings ≡ j.settings
  pub held : b.held ≡ Some t.number
  pub kind : t.kind ≡ b.stage
  pub clear : b.first ≡ None
  pub next : j.premises → IsNext (job_of j) (done_of b.records) t

-- a book after its files were read: as before, but that the store's count of faults may have risen
pub record IsStill (before now : Shown) : Type 0 where
  pub settings : now.settings ≡ before.settings
  pub records : now.records ≡ before.records
  pub held : now.held ≡ before.held
  pub stage : now.stage ≡ before.stage
  pub first : now.first ≡ before.first
  pub later : before.faults ≤ now.faults

-- why a task fails: a fault of the store or of the task's own source, or it is refused
abbrev pub IsFailed : {Src : Type 0} → JobMembers → SourceMembers Src → Task → Option Src → (faults : ℕ) → Refusal → Type 0
IsFailed j source t own faults refusal.StoreFault = Rose j.before faults
IsFailed {Src} j source t own faults (refusal.InputFault input) = (input ≡ t.number) × (s : Src) × (origin : Origin) × (own ≡ Some s) × (slice_get j.origins input ≡ Some origin) × Rose origin.faults (source.faults s)
IsFailed j source t own faults r = IsRefused j t r
