-- A file that is read as rows has as many as its footer tells.
use Rattle.std.proofs.Common.{◌≡◌, [], ◌∷◌, ℕ, ℤ, suc, List, Result, Ok, Err, ap, arith, get_or, length, refl, sym, ◌∙◌}
use Rattle.std.specs.List.{range_with_len}
use Rattle.std.proofs.lemmas.List.FromFn.{length-range_with_len}
use Rattle.hx_base.specs.Columns.{column_names}
use Rattle.hx_base.specs.declared.row.Row.{Row}
use Rattle.hx_base.proofs.RowValues.{value-of}
use Rattle.hx_pqmeta.specs.declared.refusal.PqRefusal.{PqRefusal}
use Rattle.hx_pqread.specs.Columns.{HaveRows, columns_in}
use Rattle.hx_rows.specs.Parquet.{in_file, parquet_rows, row_across, rows_of_columns}
use Rattle.hx_rows.specs.Reading.{Tells}
use Rattle.hx_rows.specs.Rows.{numbered, rows_from}
use Rattle.hx_rows.specs.declared.fault.Fault.{Fault}
use Rattle.hx_rows.specs.declared.read.RowRefusal.{RowRefusal}
use Rattle.hx_rows.specs.declared.read.RowRefusal.TheVariants as answer

-- a row for each of a list
rows-length : {A : Type 0} (row_of : A → Result Row Fault) (number : ℕ) (xs : List A) (rows : List Row) → rows_from row_of number xs ≡ Ok rows → length rows ≡ length xs
rows-length row_of number [] rows is = let none : rows ≡ [] = cc is in ap length none
rows-length row_of number (x ∷ xs) rows is =
    let first = value-of (numbered number (row_of x)) _ rows is in
    let others = value-of (rows_from row_of (suc number) xs) _ rows first.2 in
    let more = rows-length row_of (suc number) xs others.0 others.1 in
    let all : rows ≡ first.0 ∷ others.0 = cc others.2 in
    ap length all ∙ ap suc more

across-length : (columns : List (List ℤ)) (rows : List Row) → rows_of_columns columns ≡ Ok rows → length rows ≡ length (get_or columns 0 [])
unfolding rows_of_columns
across-length columns rows is =
    let many = length (get_or columns 0 []) in
    rows-length (row_across columns) 1 (range_with_len 0 many) rows is ∙ length-range_with_len 0 many

read-columns : (read : Result (List (List ℤ)) PqRefusal) (columns : List (List ℤ)) → in_file read ≡ Ok columns → read ≡ Ok columns
read-columns (Ok found) columns is = let same : found ≡ columns = cc is in ap Ok same
read-columns (Err why) columns is = cc is

-- the rows that a footer tells are those of the file
pub rows-told : (bytes : List ℕ) (count : ℕ)
    → ((names : List (List ℕ)) (lists : List (List ℤ)) → columns_in bytes names ≡ Ok lists → (length lists ≡ length names) × HaveRows count lists)
    → (rows : List Row) → parquet_rows bytes ≡ Ok rows → count ≡ length rows
unfolding parquet_rows
rows-told bytes count told rows is =
    let columns = value-of (in_file (columns_in bytes column_names)) _ rows is in
    let h = told column_names columns.0 (read-columns (columns_in bytes column_names) columns.0 columns.1) in
    sym (across-length columns.0 rows columns.2 ∙ h.1 0 (omega (arith, h.0)))

no-fault : (number : ℕ × ℕ) (read : Result (List Row) (ℕ × ℕ)) (rows : List Row) → read ≡ Err number → read ≡ Ok rows → ⊥
no-fault number read rows refused is = cc

-- where a file is read, a refusal is want of memory
pub wants-told : (told : RowRefusal) (read : Result (List Row) (ℕ × ℕ)) (rows : List Row) → Tells told read → read ≡ Ok rows → told ≡ answer.Memory
wants-told answer.Memory read rows tells is = refl
wants-told (answer.Bad row why) read rows tells is = absurd (no-fault (row, why) read rows tells is)
