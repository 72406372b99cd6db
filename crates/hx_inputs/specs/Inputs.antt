-- The inputs of a job by their names and bytes: their rows, and which of their faults comes first.
use Rattle.std.specs.Prelude.{◌≡◌, ◌+◌, ◌++◌, ◌∷◌, ℕ, List, [], length, take, Option, Some, None, Result, Ok, Err}
use Rattle.std.specs.Option.{option_or}
use Rattle.hx_base.specs.Limits.{above, most_bytes, most_inputs}
use Rattle.hx_base.specs.declared.refusal.Refusal.{Refusal}
use Rattle.hx_base.specs.declared.refusal.Refusal.TheVariants as refusal
use Rattle.hx_base.specs.declared.row.Row.{Row}
use Rattle.hx_rows.specs.Reading.{rows_of}
use Rattle.hx_rows.specs.declared.read.RowRefusal.{RowRefusal}
use Rattle.hx_rows.specs.declared.read.RowRefusal.TheVariants as row_refusal

-- too many inputs are named
abbrev pub too_many_inputs : ℕ → Option Refusal
too_many_inputs count = above 1 most_inputs count

-- the first input that is too long
abbrev pub too_long : List (List ℕ) → Option Refusal
too_long [] = None
too_long (bytes ∷ more) = option_or (above 2 most_bytes (length bytes)) (too_long more)

-- the fault of an input, by its number
abbrev pub fault_of : ℕ → Result (List Row) (ℕ × ℕ) → Option Refusal
fault_of number (Ok rows) = None
fault_of number (Err (row, why)) = Some (refusal.BadInput number row why)

-- the first fault of the first input that has one; the inputs are numbered on from `number`
abbrev pub bad_input : ℕ → List (List ℕ) → List (List ℕ) → Option Refusal
bad_input number (name ∷ names) (bytes ∷ more) = option_or (fault_of number (rows_of name bytes)) (bad_input (number + 1) names more)
bad_input number _ _ = None

-- the rows of all inputs, one input after another
abbrev pub AreRows : List (List ℕ) → List (List ℕ) → List Row → Type 0
AreRows [] [] rows = rows ≡ []
AreRows (name ∷ names) (bytes ∷ more) rows = (first : List Row) × (rest : List Row) × (rows_of name bytes ≡ Ok first) × AreRows names more rest × (rows ≡ first ++ rest)
AreRows [] (bytes ∷ more) rows = ⊥
AreRows (name ∷ names) [] rows = ⊥

-- a refusal that comes in its turn with the lengths: a fault of an input where no input before it is too long, and want
-- of memory where none is
abbrev pub IsAfterLengths : List (List ℕ) → Refusal → Type 0
IsAfterLengths bytes (refusal.InputFault input) = too_long (take input bytes) ≡ None
IsAfterLengths bytes refusal.Memory = too_long bytes ≡ None
IsAfterLengths bytes _ = Unit {0}

-- a refusal that comes in its turn with the rows: a fault of an input where no input before it is bad
abbrev pub IsAfterRows : List (List ℕ) → List (List ℕ) → Refusal → Type 0
IsAfterRows names bytes (refusal.InputFault input) = bad_input 0 (take input names) (take input bytes) ≡ None
IsAfterRows names bytes _ = Unit {0}

-- what becomes of a refusal of an input's rows, by the input's number
abbrev pub of_rows : ℕ → RowRefusal → Refusal
of_rows number row_refusal.Memory = refusal.Memory
of_rows number (row_refusal.Bad row why) = refusal.BadInput number row why
