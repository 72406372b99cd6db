-- What the tasks of an import answer.
use Rattle.std.specs.Prelude.{◌≡◌, ◌⊎◌, ⊤, ℕ, List}
use Rattle.hx_base.specs.Columns.{column_names}
use Rattle.hx_base.specs.Limits.{most_partitions}
use Rattle.hx_base.specs.declared.refusal.JobFile.{JobFile}
use Rattle.hx_base.specs.declared.refusal.JobFile.TheVariants as job_file
use Rattle.hx_base.specs.declared.refusal.Refusal.{Refusal}
use Rattle.hx_base.specs.declared.refusal.Refusal.TheVariants as refusal
use Rattle.hx_base.specs.declared.task.Task.{Task}
use Rattle.hx_pqread.specs.Columns.{columns_in}
use Rattle.hx_catalog.specs.Answers.{damage_place}
use Rattle.hx_book.specs.Books.{IsTaskCause, JobMembers}
use Rattle.hx_work.specs.declared.refusal.WorkRefusal.{WorkRefusal}
use Rattle.hx_work.specs.declared.refusal.WorkRefusal.TheVariants as work

-- why a task makes no file: what it works on, or want of memory
abbrev pub IsRefused : JobMembers → Task → Refusal → Type 0
IsRefused j t refusal.Memory = ⊤
IsRefused j t r = IsTaskCause j t r

-- a file is no such one, which under the premises it is, or memory is wanted: so whatever task read it is refused
abbrev pub IsUnread : JobMembers → Refusal → Type 0
IsUnread j r = (t : Task) → IsRefused j t r

-- a task's refusal, by the number of its input
abbrev pub refusal_of : ℕ → WorkRefusal → Refusal
refusal_of input work.Memory = refusal.Memory
refusal_of input (work.Bad row why) = refusal.BadInput input row why
refusal_of input (work.Changed pixel kept found) = refusal.InputChanged input pixel kept found
refusal_of input (work.Overfull pixel count) = refusal.Overfull pixel count
refusal_of input (work.TooMany found) = refusal.TooMany 3 found most_partitions

-- a file of the job is damaged at a place
abbrev pub damaged : JobFile → ℕ → Refusal
damaged file place = refusal.Damaged 1 file place

-- a partition's file is refused: at its place of damage, or for want of memory
abbrev pub IsPartRefused : ℕ → List ℕ → Refusal → Type 0
IsPartRefused number bytes r = (r ≡ refusal.Memory) ⊎ (r ≡ damaged (job_file.Part number) (damage_place (columns_in bytes column_names)))
