-- What can be written, and that it is read back.
use Rattle.std.specs.Prelude.{◌≡◌, ◌≢◌, ℕ, ◌+◌, ◌<◌, ◌≤◌, ◌^◌, ℤ, pos, List, length, Ok, All, AllPairs, FitsSigned}
use Rattle.std.specs.List.{AllByRecursion}
use Rattle.std.specs.Int.{w64}
use Rattle.hx_base.specs.Limits.{most_rows}
use Rattle.hx_base.specs.Rows.{IsGood}
use Rattle.hx_base.specs.declared.row.Row.{Row}
use Rattle.hx_pqread.specs.Laws.{HasColumns}
use Rattle.hx_rows.specs.Parquet.{parquet_rows}
use Rattle.hx_pqwrite.specs.Files.{all_pages, file_of, written_file}

-- ---- tables

-- a column of so many numbers, each of which has room in eight bytes
pub record IsWritable (rows : ℕ) (numbers : List ℤ) : Type 0 where
  pub count : length numbers ≡ rows
  pub fit : AllByRecursion (FitsSigned w64) numbers

-- a table of 1 to 64 columns of numbers, whose names differ and have at most 64 bytes
pub record IsTable (names : List (List ℕ)) (rows : ℕ) (columns : List (List ℤ)) : Type 0 where
  pub some : 1 ≤ length names
  pub few : length names ≤ 64
  pub short : AllByRecursion (λ (name : List ℕ). length name ≤ 64) names
  pub differ : AllPairs (λ (name : List ℕ) other. name ≢ other) names
  pub same_count : length columns ≡ length names
  pub each : AllByRecursion (IsWritable rows) columns
  pub rows_fit : rows < 2 ^ 63
  pub long : 4 + length (all_pages columns) < 2 ^ 63

-- The file of a table has its columns.
abbrev pub ReadsTables : Type 0
ReadsTables = (names : List (List ℕ)) (rows : ℕ) (columns : List (List ℤ)) → IsTable names rows columns → HasColumns (file_of names rows columns) names columns

-- ---- rows

-- a row's numbers have room in eight bytes
pub record RowFits (row : Row) : Type 0 where
  pub hp : FitsSigned w64 (pos row.hp)
  pub id : FitsSigned w64 row.id
  pub x : FitsSigned w64 row.x
  pub y : FitsSigned w64 row.y
  pub z : FitsSigned w64 row.z

-- The file of good rows with ids of 64 bits, of which there are at most as many as an input may have, is read as these rows.
abbrev pub ReadsRows : Type 0
ReadsRows = (rows : List Row) → All IsGood rows → All (λ (row : Row). FitsSigned w64 row.id) rows → length rows ≤ most_rows → parquet_rows (written_file rows) ≡ Ok rows
