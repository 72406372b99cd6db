-- Reading an input's bytes as rows. The end of its name says how: `.parquet`, or else `.csv`.
use Rattle.std.specs.Prelude.{◌≡◌, ℕ, List, Result, Ok, Err, Vec, Bool, nat_eq, codes, if◌then◌else◌}
use Rattle.std.specs.List.{ends_with}
use Rattle.std.specs.declared.alloc.Global.{Global}
use Rattle.hx_base.specs.declared.row.Row.{Row}
use Rattle.hx_rows.specs.Csv.{csv_rows}
use Rattle.hx_rows.specs.Parquet.{parquet_rows}
use Rattle.hx_rows.specs.declared.read.RowRefusal.{RowRefusal}
use Rattle.hx_rows.specs.declared.read.RowRefusal.TheVariants as refusal

abbrev pub names_parquet : List ℕ → Bool
names_parquet name = ends_with nat_eq name (codes ".parquet")

-- the rows of an input, by its name and bytes, or its first fault as its row and its number
unfoldable pub rows_of : List ℕ → List ℕ → Result (List Row) (ℕ × ℕ)
rows_of name bytes = if names_parquet name then parquet_rows bytes else csv_rows bytes

-- a refusal tells the fault of what was read, unless memory ran out
abbrev pub Tells : {A : Type 0} → RowRefusal → Result A (ℕ × ℕ) → Type 0
Tells refusal.Memory read = Unit {0}
Tells (refusal.Bad row why) read = read ≡ Err (row, why)

-- what was answered is what reading gives, unless memory ran out
abbrev pub Reads : Result (Vec Row Global) RowRefusal → Result (List Row) (ℕ × ℕ) → Type 0
Reads (Ok rows) read = read ≡ Ok rows.items
Reads (Err refusal) read = Tells refusal read
