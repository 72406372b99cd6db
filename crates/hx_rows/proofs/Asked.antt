-- What a refusal of the columns and the end of a name say of an input.
use Rattle.std.proofs.Common.{◌≡◌, ◌⊎◌, ℕ, List, Result, Err, Vec, Global, false, refl, codes, length, take, ◌-◌, inl, inr}
use Rattle.std.proofs.lemmas.Bool.{cases_Bool}
use Rattle.std.proofs.lemmas.Bool.Decides.{Decides-eqb}
use Rattle.std.proofs.lemmas.Slice.Eq.{ends_is}
use Rattle.hx_base.specs.FileWords.{IsParquetName}
use Rattle.hx_pqmeta.specs.declared.refusal.PqRefusal.{PqRefusal}
use Rattle.hx_pqmeta.specs.declared.refusal.PqRefusal.TheVariants as refusal
use Rattle.hx_pqread.specs.Columns.{columns_in}
use Rattle.hx_base.specs.declared.row.Row.{Row}
use Rattle.hx_rows.specs.Csv.{csv_rows}
use Rattle.hx_base.specs.Columns.{column_names}
use Rattle.hx_rows.specs.Parquet.{file_fault, parquet_rows}
use Rattle.hx_rows.specs.Reading.{Reads, names_parquet, rows_of}
use Rattle.hx_rows.specs.declared.read.RowRefusal.{RowRefusal}
use Rattle.hx_rows.specs.declared.read.RowRefusal.TheVariants as answer

-- a refusal of the columns is the file's
pub refused-columns : (bytes : List ℕ) (why : PqRefusal) (told : RowRefusal) → (why ≡ refusal.Memory) ⊎ (columns_in bytes column_names ≡ Err why)
    → (why ≡ refusal.Memory → told ≡ answer.Memory) → Reads (Err told) (Err (file_fault why)) → Reads (Err told) (parquet_rows bytes)
unfolding parquet_rows
refused-columns bytes why told (inl wants) memory reads = rw (memory wants) tt
refused-columns bytes why told (inr is) memory reads = rw is reads

-- a name that doesn't end in `.parquet`
pub no-parquet : (name : List ℕ) → (IsParquetName name → ⊥) → names_parquet name ≡ false
no-parquet name other =
    let suffix = codes ".parquet" in
    let is = ends_is Decides-eqb name suffix (names_parquet name) refl in
    elim (cases_Bool (names_parquet name)) [ inl e ↦ absurd (other (take (length name - length suffix) name, is.0 e)) | inr e ↦ e ]

pub csv-reads : (name bytes : List ℕ) (result : Result (Vec Row Global) RowRefusal) → (IsParquetName name → ⊥) → Reads result (csv_rows bytes) → Reads result (rows_of name bytes)
unfolding rows_of
csv-reads name bytes result other reads = rw (no-parquet name other) reads
