-- Rows one after another, numbered from 1, up to the first fault.
use Rattle.std.specs.Prelude.{◌∷◌, ℕ, suc, if◌then◌else◌, List, [], Result, Ok, Err, nat_lt}
use Rattle.hx_base.specs.Columns.{◌>>=◌, row_fault_number}
use Rattle.hx_base.specs.Limits.{most_rows}
use Rattle.hx_base.specs.declared.columns.RowFault.{RowFault}
use Rattle.hx_base.specs.declared.row.Row.{Row}
use Rattle.hx_rows.specs.declared.fault.Fault.{Fault}
use Rattle.hx_rows.specs.declared.fault.Fault.TheVariants as fault

abbrev pub fault_number : Fault → ℕ
fault_number fault.Header = 1
fault_number fault.Length = 2
fault_number (fault.Row f) = row_fault_number f
fault_number fault.RowNumber = 21

-- a fault of a row's values as one of the input
abbrev pub in_row : Result Row RowFault → Result Row Fault
in_row (Ok row) = Ok row
in_row (Err f) = Err (fault.Row f)

-- a fault by its row and its number; row 0 is the file as a whole
abbrev pub at_row : {A : Type 0} → ℕ → Result A Fault → Result A (ℕ × ℕ)
at_row row (Ok x) = Ok x
at_row row (Err f) = Err (row, fault_number f)

-- a row by its number, which may be too high
abbrev pub numbered : ℕ → Result Row Fault → Result Row (ℕ × ℕ)
numbered number row = at_row number (if nat_lt most_rows number then Err fault.RowNumber else row)

-- the row of each of a list, numbered on from `number`, or the first fault
abbrev pub rows_from : {A : Type 0} → (A → Result Row Fault) → ℕ → List A → Result (List Row) (ℕ × ℕ)
rows_from row_of number [] = Ok []
rows_from row_of number (x ∷ xs) = numbered number (row_of x) >>= λ row. rows_from row_of (suc number) xs >>= λ rows. Ok (row ∷ rows)
