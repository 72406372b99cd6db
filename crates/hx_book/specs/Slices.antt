-- What is read of one part of a split or margin split file, and what that is by the value of the file's task.
use Rattle.std.specs.Prelude.{◌≡◌, ⊤, ℕ, List, [], MatchOption, Option, Some, None, Result, Ok, Err, Vec, slice_get, take}
use Rattle.std.specs.declared.alloc.Global.{Global}
use Rattle.hx_align.specs.Plans.{pixels_of}
use Rattle.hx_align.specs.declared.plan.PlanRow.{PlanRow}
use Rattle.hx_base.specs.Columns.{◌>>=◌}
use Rattle.hx_base.specs.Contents.{AreMarginRows, partition_rows}
use Rattle.hx_base.specs.declared.pixel.Pixel.{Pixel}
use Rattle.hx_base.specs.declared.refusal.JobFile.{JobFile}
use Rattle.hx_base.specs.declared.refusal.JobFile.TheVariants as file
use Rattle.hx_base.specs.declared.refusal.Refusal.{Refusal}
use Rattle.hx_base.specs.declared.refusal.Refusal.TheVariants as refusal
use Rattle.hx_base.specs.declared.refusal.SpillRefusal.TheVariants as spill_refusal
use Rattle.hx_base.specs.declared.row.Row.{Row}
use Rattle.hx_outside.specs.Faults.{Rose}
use Rattle.hx_outside.specs.declared.store.StoreError.TheVariants as store_error
use Rattle.hx_spill.specs.Alone.{bytes_at, head_width, rows_from}
use Rattle.hx_spill.specs.Items.{Read}
use Rattle.hx_spill.specs.Splits.{slice_place}
use Rattle.hx_spill.specs.declared.split.SlicePlace.{SlicePlace}
use Rattle.hx_book.specs.Tasks.{JobData}
use Rattle.hx_book.specs.Values.{AreRowsOf, OfCut, OfPart}
use Rattle.hx_book.specs.Books.{JobMembers}
use Rattle.hx_book.specs.declared.slices.SliceError.{SliceError}
use Rattle.hx_book.specs.declared.slices.SliceError.TheVariants as error

-- ---- by the value

-- the files whose rows stand part by part
abbrev pub HasParts : JobFile → Type 0
HasParts (file.Split input) = ⊤
HasParts (file.MarginSplit number) = ⊤
HasParts _ = ⊥

-- rows that go to the partition of a number: there are none where there is no such partition
abbrev pub GoTo : List PlanRow → (part : ℕ) → (Goes : Pixel → Type 0) → List Row → Type 0
GoTo plan part Goes rows = MatchOption (slice_get (pixels_of plan) part) (rows ≡ []) Goes

-- the rows of an input that the partition of a number contains, sorted, each as often as the input has it
pub record IsInputSlice (job : JobData) (input part : ℕ) (plan : List PlanRow) (rows : List Row) : Type 0 where
  pub own : List Row
  pub are : AreRowsOf job input own
  pub go : GoTo plan part (λ pixel. rows ≡ partition_rows pixel own) rows

-- what a file has for the partition of a number: the rows of its input that this contains, or the rows of its partition that are in this
-- one's margin
abbrev pub IsSliceOf : JobData → JobFile → (part : ℕ) → List Row → Type 0
IsSliceOf job (file.Split input) part rows = OfCut job (λ all plan. IsInputSlice job input part plan rows)
IsSliceOf job (file.MarginSplit number) part rows =
    OfCut job (λ all plan. OfPart plan number (λ holder. GoTo plan part (λ pixel. AreMarginRows pixel job.settings.margin_order (partition_rows holder all) rows) rows))
IsSliceOf job _ part rows = ⊥

-- ---- by the bytes

-- the rows that were found
abbrev pub rows_found : Option SlicePlace → List ℕ → Read (List Row)
rows_found None bytes = Ok []
rows_found (Some place) bytes = rows_from place (bytes_at place bytes)

-- what is read of a part by the bytes of a head
abbrev pub read_by_head : (part : ℕ) → (head bytes : List ℕ) → Read (List Row)
read_by_head part head bytes = do
  found ← slice_place part head
  rows_found found bytes

-- what is read of a part alone: the first twelve bytes, then the head, then the part's rows
abbrev pub read_alone : (part : ℕ) → List ℕ → Read (List Row)
read_alone part bytes = do
  width ← head_width (take 12 bytes)
  read_by_head part (take width bytes) bytes

-- what is answered is what is read, unless the store fails or memory runs out
abbrev pub Answers : Result (Vec Row Global) SliceError → Read (List Row) → Type 0
Answers (Ok rows) read = read ≡ Ok rows.items
Answers (Err (error.Spill (spill_refusal.Damaged place))) read = read ≡ Err (spill_refusal.Damaged place)
Answers (Err (error.Spill spill_refusal.Memory)) read = ⊤
Answers (Err (error.Store why)) read = ⊤

-- ---- refusals

abbrev pub of_slice : JobFile → SliceError → Refusal
of_slice asked (error.Store store_error.Failed) = refusal.StoreFault
of_slice asked (error.Store store_error.Memory) = refusal.Memory
of_slice asked (error.Spill (spill_refusal.Damaged place)) = refusal.Damaged 1 asked place
of_slice asked (error.Spill spill_refusal.Memory) = refusal.Memory

-- why a part isn't read
abbrev pub IsSliceCause : JobMembers → JobFile → ℕ → Refusal → Type 0
IsSliceCause j asked now (refusal.Damaged side at place) = (side ≡ 1) × (at ≡ asked) × (j.premises → ⊥)
IsSliceCause j asked now refusal.StoreFault = Rose j.before now
IsSliceCause j asked now refusal.Memory = ⊤
IsSliceCause j asked now _ = ⊥
