-- The rows of a Parquet input, or its first fault.
-- Its columns are those that the contract of hx_pqread gives of the bytes.
use Rattle.std.specs.Prelude.{ℕ, ℤ, List, [], length, map, slice_get, slice_index_or, Result, Ok, Err}
use Rattle.std.specs.List.{range_with_len}
use Rattle.hx_base.specs.Columns.{◌>>=◌, column_names, row_of}
use Rattle.hx_base.specs.declared.row.Row.{Row}
use Rattle.hx_pqmeta.specs.declared.refusal.PqRefusal.{PqRefusal}
use Rattle.hx_pqmeta.specs.declared.refusal.PqRefusal.TheVariants as refusal
use Rattle.hx_pqread.specs.Columns.{columns_in}
use Rattle.hx_rows.specs.Rows.{in_row, rows_from}
use Rattle.hx_rows.specs.declared.fault.Fault.{Fault}

-- A refusal of the columns as a fault: its row, or 0 for the file as a whole, and its number.
abbrev pub file_fault : PqRefusal → ℕ × ℕ
file_fault (refusal.Column column) = (0, 1)
file_fault refusal.NotParquet = (0, 9)
file_fault (refusal.Thrift at) = (0, 9)
file_fault (refusal.Missing field) = (0, 9)
file_fault refusal.Nested = (0, 10)
file_fault (refusal.Codec column) = (0, 10)
file_fault (refusal.Encoding column) = (0, 10)
file_fault refusal.Counts = (0, 11)
file_fault (refusal.Bounds column) = (0, 11)
file_fault (refusal.Null row) = (row, 12)
-- no file is refused for memory: that is an answer of a call alone
file_fault refusal.Memory = (0, 9)

abbrev pub in_file : {A : Type 0} → Result A PqRefusal → Result A (ℕ × ℕ)
in_file (Ok x) = Ok x
in_file (Err refusal) = Err (file_fault refusal)

-- the row of the columns' values at an index
abbrev pub row_across : List (List ℤ) → ℕ → Result Row Fault
row_across columns i = in_row (row_of (map (λ column. slice_get column i) columns))

-- the rows of columns, which have equally many values
unfoldable pub rows_of_columns : List (List ℤ) → Result (List Row) (ℕ × ℕ)
rows_of_columns columns = rows_from (row_across columns) 1 (range_with_len 0 (length (slice_index_or columns 0 [])))

-- the rows of a file: a refusal of its columns comes before every fault of a row
unfoldable pub parquet_rows : List ℕ → Result (List Row) (ℕ × ℕ)
parquet_rows bytes = in_file (columns_in bytes column_names) >>= rows_of_columns
