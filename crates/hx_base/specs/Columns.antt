-- The five columns of a row: their names, a row's values in them, and the row of five values.
use Rattle.std.specs.Prelude.{◌∷◌, ◌&&◌, ◌+◌, ℕ, ℤ, pos, neg_ℤ, if◌then◌else◌, List, [], slice_index_or, Option, Some, None, Result, Ok, Err, nat_le, int_le, map, unsigned_abs, codes}
use Rattle.hx_base.specs.Rows.{squared_length, tolerance, unit}
use Rattle.hx_base.specs.declared.row.Row.{Row}
use Rattle.hx_base.specs.declared.columns.Column.{Column}
use Rattle.hx_base.specs.declared.columns.Column.TheVariants as column
use Rattle.hx_base.specs.declared.columns.RowFault.{RowFault}
use Rattle.hx_base.specs.declared.columns.RowFault.TheVariants as fault

-- the columns, in their order
abbrev pub columns : List Column
columns = column.Position ∷ column.Id ∷ column.X ∷ column.Y ∷ column.Z ∷ []

abbrev pub name_in : Column → List ℕ
name_in column.Position = codes "_healpix_29"
name_in column.Id = codes "id"
name_in column.X = codes "cx"
name_in column.Y = codes "cy"
name_in column.Z = codes "cz"

-- a row's value in a column
abbrev pub value_in : Column → Row → ℤ
value_in column.Position row = pos row.hp
value_in column.Id row = row.id
value_in column.X row = row.x
value_in column.Y row = row.y
value_in column.Z row = row.z

-- the columns' names, and a row's values in them
abbrev pub column_names : List (List ℕ)
column_names = map name_in columns

abbrev pub values_of : Row → List ℤ
values_of row = map (λ column. value_in column row) columns

-- for each column the values that a list of rows has in it
abbrev pub columns_of_rows : List Row → List (List ℤ)
columns_of_rows rows = map (λ column. map (value_in column) rows) columns

-- the number by which a refusal tells a row's fault
abbrev pub row_fault_number : RowFault → ℕ
row_fault_number fault.Position = 3
row_fault_number fault.Id = 4
row_fault_number fault.X = 5
row_fault_number fault.Y = 6
row_fault_number fault.Z = 7
row_fault_number fault.Vector = 8

-- a value, or else the first fault of what was asked before it
infixl 10 ◌>>=◌
abbrev pub ◌>>=◌ : {A B E : Type 0} → Result A E → (A → Result B E) → Result B E
(Ok x) >>= f = f x
(Err e) >>= f = Err e

-- a value that is there
abbrev pub required : {A E : Type 0} → E → Option A → Result A E
required f None = Err f
required f (Some x) = Ok x

-- a value that is there and lies in a range
abbrev pub within : ℤ → ℤ → RowFault → Option ℤ → Result ℤ RowFault
within low high f None = Err f
within low high f (Some z) = if int_le low z && int_le z high then Ok z else Err f

abbrev pub position : Option ℤ → Result ℤ RowFault
position value = within (pos 0) (pos 3458764513820540927) fault.Position value

abbrev pub coordinate : RowFault → Option ℤ → Result ℤ RowFault
coordinate f value = within (neg_ℤ (pos 2000000000)) (pos 2000000000) f value

-- the vector is of unit length, up to rounding
abbrev pub with_unit_vector : Row → Result Row RowFault
with_unit_vector row = if nat_le (squared_length row) (unit + tolerance) && nat_le unit (squared_length row + tolerance) then Ok row else Err fault.Vector

-- the value of a column, which is none where it is no number that an i64 holds
abbrev pub value : List (Option ℤ) → ℕ → Option ℤ
value values column = slice_index_or values column None

-- the row of the columns' values, or the first of its faults
unfoldable pub row_of : List (Option ℤ) → Result Row RowFault
row_of values = do
  hp ← position (value values 0)
  id ← required fault.Id (value values 1)
  x ← coordinate fault.X (value values 2)
  y ← coordinate fault.Y (value values 3)
  z ← coordinate fault.Z (value values 4)
  with_unit_vector (record { hp = unsigned_abs hp; id = id; x = x; y = y; z = z })
