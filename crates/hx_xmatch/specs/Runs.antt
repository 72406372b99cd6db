-- Left rows that are searched for in the same right partitions, and these partitions by their indices.
use Rattle.std.specs.Prelude.{◌≡◌, ◌<◌, ◌≤◌, ℕ, List, Some, Bool, true, false, All, Contains, slice_get, length}
use Rattle.std.specs.List.{AllWithin}
use Rattle.hx_base.specs.Pixels.{LiesIn, PixelContains, pixel_of}
use Rattle.hx_base.specs.Touching.{Touch}
use Rattle.hx_base.specs.declared.pixel.Pixel.{Pixel}
use Rattle.hx_base.specs.declared.row.Row.{Row}
use Rattle.hx_xmatch.specs.declared.runs.Run.{Run}

-- no partition contains a row
abbrev pub IsUncovered : List Pixel → Row → Type 0
IsUncovered parts row = All (λ part. ¬ (PixelContains part row)) parts

-- a partition that contains the row is among those of the indices
pub record IsCoveredBy (parts : List Pixel) (indices : List ℕ) (row : Row) : Type 0 where
  pub index : ℕ
  pub listed : Contains indices index
  pub part : Pixel
  pub there : slice_get parts index ≡ Some part
  pub holds : PixelContains part row

-- the partitions that contain a neighbour of a pixel of the margin order are among those of the indices
abbrev pub HasAround : List Pixel → ℕ → ℕ → List ℕ → Type 0
HasAround parts margin_order pixel indices =
    (index : ℕ) (part : Pixel) (neighbour : ℕ) → slice_get parts index ≡ Some part → Touch margin_order pixel neighbour
    → LiesIn (record { order = margin_order; number = neighbour }) part → Contains indices index

-- a row is searched for in the partitions of the indices: with their margins where one of them contains it, else in
-- those around it
abbrev pub IsServedBy : List Pixel → ℕ → List ℕ → Bool → Row → Type 0
IsServedBy parts margin_order indices true row = IsCoveredBy parts indices row
IsServedBy parts margin_order indices false row = IsUncovered parts row × HasAround parts margin_order (pixel_of margin_order row.hp) indices

-- the indices are those of partitions
abbrev pub AreIndices : List Pixel → List ℕ → Type 0
AreIndices parts indices = All (λ index. index < length parts) indices

-- the first rows are searched for in the partitions of a run, and if there are rows, it has some of them
pub record IsRunOf (parts : List Pixel) (margin_order : ℕ) (rows : List Row) (run : Run) : Type 0 where
  pub within : run.count ≤ length rows
  pub some : 0 < length rows → 0 < run.count
  pub indices : AreIndices parts run.parts.items
  pub served : AllWithin (IsServedBy parts margin_order run.parts.items run.margin) rows 0 run.count
