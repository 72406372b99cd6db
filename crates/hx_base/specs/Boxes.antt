-- Bounding boxes of the vectors of the rows in a pixel, and the gap between two of them.
use Rattle.std.specs.Prelude.{◌≡◌, ◌+◌, ◌*◌, ◌-ℤ◌, ◌≤ℤ◌, ℕ, ℤ, pos, negsuc, max, List, All, Any}
use Rattle.hx_base.specs.Pixels.{rows_in}
use Rattle.hx_base.specs.declared.pixel.Pixel.{Pixel}
use Rattle.hx_base.specs.declared.row.Row.{Row}

-- the least and the greatest value of a coordinate
pub record Extent : Type 0 where
  pub low : ℤ
  pub high : ℤ

pub record BoundingBox : Type 0 where
  pub x : Extent
  pub y : Extent
  pub z : Extent

-- some row has the least value and some row the greatest, and those of all rows lie between them
pub record IsExtentOf (coordinate : Row → ℤ) (rows : List Row) (extent : Extent) : Type 0 where
  pub lowest : Any (λ row. coordinate row ≡ extent.low) rows
  pub highest : Any (λ row. coordinate row ≡ extent.high) rows
  pub within : All (λ row. (extent.low ≤ℤ coordinate row) × (coordinate row ≤ℤ extent.high)) rows

-- the box of the rows of a list that a pixel contains; where it contains none, it has no box
pub record IsBoxOf (pixel : Pixel) (rows : List Row) (box : BoundingBox) : Type 0 where
  pub x : IsExtentOf (λ row. row.x) (rows_in pixel rows) box.x
  pub y : IsExtentOf (λ row. row.y) (rows_in pixel rows) box.y
  pub z : IsExtentOf (λ row. row.z) (rows_in pixel rows) box.z

-- the greater of 0 and a number
abbrev pub positive_part : ℤ → ℕ
positive_part (pos n) = n
positive_part (negsuc n) = 0

-- on one axis: the greatest of 0 and the way from the end of either to the start of the other
abbrev pub gap_of : Extent → Extent → ℕ
gap_of a b = max (positive_part (a.low -ℤ b.high)) (positive_part (b.low -ℤ a.high))

-- the squared gap of two boxes
abbrev pub gap2_of : BoundingBox → BoundingBox → ℕ
gap2_of a b = gap_of a.x b.x * gap_of a.x b.x + gap_of a.y b.y * gap_of a.y b.y + gap_of a.z b.z * gap_of a.z b.z
