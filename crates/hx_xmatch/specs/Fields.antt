-- The right rows that are searched together: those of the files of some partitions. `told` says which rows a file has, by the index of
-- its partition, and whether it is that of the margin.
use Rattle.std.specs.Prelude.{◌≡◌, ℕ, List, Some, Bool, true, false, Contains, slice_get}
use Rattle.hx_base.specs.Contents.{AreMarginRows, partition_rows}
use Rattle.hx_base.specs.declared.pixel.Pixel.{Pixel}
use Rattle.hx_base.specs.declared.row.Row.{Row}

-- some rows have all those of a file
pub record HasFile (told : List Row → Type 0) (rows : List Row) : Type 0 where
  pub file : List Row
  pub is : told file
  pub all : (row : Row) → Contains file row → Contains rows row

-- a row is one of a file's
pub record IsInAFile (told : ℕ → Bool → List Row → Type 0) (row : Row) : Type 0 where
  pub index : ℕ
  pub margin : Bool
  pub file : List Row
  pub is : told index margin file
  pub stands : Contains file row

-- rows of files alone, and all those of some partitions, and where it is asked of their margins
pub record IsFieldOf (told : ℕ → Bool → List Row → Type 0) (indices : List ℕ) (margin : Bool) (rows : List Row) : Type 0 where
  pub only : (row : Row) → Contains rows row → IsInAFile told row
  pub own : (index : ℕ) → Contains indices index → HasFile (told index false) rows
  pub margins : margin ≡ true → (index : ℕ) → Contains indices index → HasFile (told index true) rows

-- the files are those of a catalogue with these rows
pub record AreFilesOf (told : ℕ → Bool → List Row → Type 0) (parts : List Pixel) (margin_order : ℕ) (rows : List Row) : Type 0 where
  pub named : (index : ℕ) (margin : Bool) (file : List Row) → told index margin file → (part : Pixel) × (slice_get parts index ≡ Some part)
  pub own : (index : ℕ) (part : Pixel) (file : List Row) → slice_get parts index ≡ Some part → told index false file → file ≡ partition_rows part rows
  pub margins : (index : ℕ) (part : Pixel) (file : List Row) → slice_get parts index ≡ Some part → told index true file → AreMarginRows part margin_order rows file
