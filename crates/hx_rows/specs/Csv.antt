-- The rows of a CSV input, or its first fault.
-- Its records are those that the csv crate's contract gives of the bytes, in that crate's default dialect
-- (RFC 4180 with lone line feeds and carriage returns too); the first record is the header.
use Rattle.std.specs.Prelude.{◌==◌, ◌&&◌, ◌∷◌, ◌-◌, ◌^◌, ℕ, ℤ, pos, neg_ℤ, not, if◌then◌else◌, List, [], length, map, slice_index_or, Option, Some, None, Result, Ok, Err, nat_lt, nat_le, int_le, count_by, position, option_map, option_and_then}
use Rattle.std.specs.List.{list_all}
use Rattle.std.specs.Char.{is_ascii_digit}
use Rattle.std.specs.Str.{bytes_eq}
use Rattle.std.specs.Str.Parse.{digits_value}
use Rattle.csv.specs.Reading.{records, default_config, strip_bom}
use Rattle.hx_base.specs.Columns.{◌>>=◌, column_names, required, row_of}
use Rattle.hx_base.specs.declared.row.Row.{Row}
use Rattle.hx_rows.specs.Rows.{at_row, fault_number, in_row, rows_from}
use Rattle.hx_rows.specs.declared.fault.Fault.{Fault}
use Rattle.hx_rows.specs.declared.fault.Fault.TheVariants as fault

-- the records of a text, each a list of fields
abbrev pub records_of : List ℕ → List (List (List ℕ))
records_of bytes = records default_config (strip_bom bytes)

-- Numbers.

-- what 1 to 19 decimal digits spell
unfoldable pub natural_of : List ℕ → Option ℕ
natural_of text = if list_all is_ascii_digit text && nat_lt 0 (length text) && nat_le (length text) 19 then Some (digits_value 10 text) else None

-- a number is such digits, with a `-` before them or none
unfoldable pub number_of : List ℕ → Option ℤ
number_of [] = None
number_of (c ∷ cs) = if c == 45 then option_map (λ n. neg_ℤ (pos n)) (natural_of cs) else option_map pos (natural_of (c ∷ cs))

-- a number that an i64 holds
abbrev pub fitting : ℤ → Option ℤ
fitting z = if int_le (neg_ℤ (pos (2 ^ 63))) z && int_le z (pos (2 ^ 63 - 1)) then Some z else None

-- the value of a field, which is none where it spells no number that an i64 holds
abbrev pub value_of : List ℕ → Option ℤ
value_of text = option_and_then fitting (number_of text)

-- Columns, by their indices in the header.

-- the index of a name that the header has exactly once
unfoldable pub column_of : List (List ℕ) → List ℕ → Result ℕ Fault
column_of header name = if count_by (bytes_eq name) header == 1 then required fault.Header (position (bytes_eq name) header) else Err fault.Header

-- the indices of names
abbrev pub columns_named : List (List ℕ) → List (List ℕ) → Result (List ℕ) Fault
columns_named header [] = Ok []
columns_named header (name ∷ names) = column_of header name >>= λ column. columns_named header names >>= λ columns. Ok (column ∷ columns)

unfoldable pub columns_of : List (List ℕ) → Result (List ℕ) Fault
columns_of header = columns_named header column_names

-- Rows.

abbrev pub field : List (List ℕ) → ℕ → List ℕ
field fields column = slice_index_or fields column []

-- the row of a record, under a header of so many fields that has the columns there
unfoldable pub row_of_record : List ℕ → ℕ → List (List ℕ) → Result Row Fault
row_of_record columns width fields = if not (length fields == width) then Err fault.Length else in_row (row_of (map (λ column. value_of (field fields column)) columns))

-- the rows of a table of records, of which the first is the header
unfoldable pub table_rows : List (List (List ℕ)) → Result (List Row) (ℕ × ℕ)
table_rows [] = Err (0, fault_number fault.Header)
table_rows (header ∷ records) = at_row 0 (columns_of header) >>= λ columns. rows_from (row_of_record columns (length header)) 1 records

abbrev pub csv_rows : List ℕ → Result (List Row) (ℕ × ℕ)
csv_rows bytes = table_rows (records_of bytes)
