-- The rows of an input are good, and no more than may be numbered.
use Rattle.std.proofs.Common.{IfOk, All, Vec, Global, ◌≡◌, ◌==◌, ◌≤◌, ◌∷◌, [], map, ℕ, ℤ, List, Option, Result, Ok, Err, arith, length, inl, inr, get_or, slice_get}
use Rattle.std.proofs.lemmas.Bool.{cases_Bool}
use Rattle.std.specs.List.{range_with_len}
use Rattle.hx_base.specs.Columns.{◌>>=◌, row_of}
use Rattle.hx_base.specs.Rows.{IsGood}
use Rattle.hx_base.specs.declared.columns.RowFault.{RowFault}
use Rattle.hx_base.specs.declared.row.Row.{Row}
use Rattle.hx_base.proofs.RowValues.{good-row, value-of}
use Rattle.hx_pqread.specs.Columns.{columns_in}
use Rattle.hx_base.specs.Columns as base
use Rattle.hx_rows.specs.Csv.{columns_of, csv_rows, field, records_of, row_of_record, table_rows, value_of}
use Rattle.hx_rows.specs.Parquet.{in_file, parquet_rows, row_across, rows_of_columns}
use Rattle.hx_rows.specs.Reading.{Reads}
use Rattle.hx_rows.specs.Rows.{at_row, in_row}
use Rattle.hx_rows.specs.declared.read.RowRefusal.{RowRefusal}
use Rattle.hx_rows.proofs.Collecting.{AreRead, rows-read}

in_row-is : (read : Result Row RowFault) (row : Row) → in_row read ≡ Ok row → read ≡ Ok row
in_row-is (Ok found) row is = cc is
in_row-is (Err f) row is = cc is

good-values : (values : List (Option ℤ)) (row : Row) → in_row (row_of values) ≡ Ok row → IsGood row
good-values values row is = good-row values row (in_row-is (row_of values) row is)

good-record : (columns : List ℕ) (width : ℕ) (fields : List (List ℕ)) (row : Row) → row_of_record columns width fields ≡ Ok row → IsGood row
unfolding row_of_record
good-record columns width fields row is =
    elim (cases_Bool (length fields == width)) [
      | inl e ↦ good-values (map (λ column. value_of (field fields column)) columns) row (rw e at is)
      | inr e ↦ cc (rw e at is)
    ]

table-read : (records : List (List (List ℕ))) (rows : List Row) → table_rows records ≡ Ok rows → AreRead 1 rows
unfolding table_rows
table-read [] rows is = cc is
table-read (header ∷ records) rows is =
    let columns = value-of (at_row 0 (columns_of header)) _ rows is in
    rows-read (row_of_record columns.0 (length header)) (good-record columns.0 (length header)) 1 records rows (omega arith) columns.2

columns-read : (columns : List (List ℤ)) (rows : List Row) → rows_of_columns columns ≡ Ok rows → AreRead 1 rows
unfolding rows_of_columns
columns-read columns rows is =
    rows-read (row_across columns) (λ i. good-values (map (λ column. slice_get column i) columns)) 1 (range_with_len 0 (length (get_or columns 0 []))) rows (omega arith) is

pub parquet-read : (bytes : List ℕ) (rows : List Row) → parquet_rows bytes ≡ Ok rows → AreRead 1 rows
unfolding parquet_rows
parquet-read bytes rows is =
    let columns = value-of (in_file (columns_in bytes base.column_names)) _ rows is in
    columns-read columns.0 rows columns.2

pub csv-read : (bytes : List ℕ) (rows : List Row) → csv_rows bytes ≡ Ok rows → AreRead 1 rows
csv-read bytes rows is = table-read (records_of bytes) rows is

-- what is read of an input
pub good-read : (read : Result (List Row) (ℕ × ℕ)) (result : Result (Vec Row Global) RowRefusal) → ((rows : List Row) → read ≡ Ok rows → AreRead 1 rows)
    → Reads result read → IfOk result (λ rows. All IsGood rows.items)
good-read read (Ok rows) are reads = (are rows.items reads).good
good-read read (Err r) are reads = tt

pub few-read : (read : Result (List Row) (ℕ × ℕ)) (result : Result (Vec Row Global) RowRefusal) → ((rows : List Row) → read ≡ Ok rows → AreRead 1 rows)
    → Reads result read → IfOk result (λ rows. length rows.items ≤ 1099511627776)
few-read read (Ok rows) are reads = omega (arith, (are rows.items reads).few)
few-read read (Err r) are reads = tt
