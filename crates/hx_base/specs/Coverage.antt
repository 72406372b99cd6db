-- Which right rows the search for a left row reads, and the test that makes sure that it reads all within the radius.
-- `parts` are the right catalogue's partitions and `margin_order` is its margin order. The cover order is two orders below it, so 16
-- pixels of the cover order lie in each of its pixels. r2 is the square of the radius.
use Rattle.std.specs.Prelude.{◌≡◌, ◌+◌, ◌/◌, ◌<◌, ◌≤◌, ◌⊎◌, ℕ, List, All, Any, Contains}
use Rattle.hx_base.specs.Boxes.{BoundingBox, IsBoxOf, gap2_of}
use Rattle.hx_base.specs.Contents.{IsInMargin}
use Rattle.hx_base.specs.Pixels.{AreDisjointInOrder, LiesIn, PixelContains, pixel_of}
use Rattle.hx_base.specs.Touching.{Touch}
use Rattle.hx_base.specs.declared.pixel.Pixel.{Pixel}
use Rattle.hx_base.specs.declared.row.Row.{Row}

-- what a finished catalogue has: each row lies in a partition, no position in two, no partition's order is above the margin order
pub record IsCutInto (rows : List Row) (parts : List Pixel) (margin_order : ℕ) : Type 0 where
  pub covered : All (λ row. Any (λ part. PixelContains part row) parts) rows
  pub disjoint : AreDisjointInOrder parts
  pub orders : All (λ part. part.order ≤ margin_order) parts
  pub cover_order : margin_order + 2 ≤ 29

-- a pixel of the cover order
abbrev pub cover_pixel : ℕ → ℕ → Pixel
cover_pixel margin_order number = record { order = margin_order + 2; number = number }

-- one partition contains both pixels
pub record ShareAPartition (parts : List Pixel) (p q : Pixel) : Type 0 where
  pub part : Pixel
  pub member : Contains parts part
  pub first : LiesIn p part
  pub second : LiesIn q part

-- two pixels of the cover order are near: their ancestors at the margin order are equal or touch, or one partition contains both
abbrev pub AreNear : List Pixel → ℕ → ℕ → ℕ → Type 0
AreNear parts margin_order p q =
    (p / 16 ≡ q / 16) ⊎ Touch margin_order (p / 16) (q / 16) ⊎ ShareAPartition parts (cover_pixel margin_order p) (cover_pixel margin_order q)

-- pixel p has left rows, pixel q has right rows, the gap of their boxes is within the radius, and the two aren't near
pub record IsTooNear (parts : List Pixel) (margin_order r2 : ℕ) (left right : List Row) (p q gap2 : ℕ) : Type 0 where
  pub left_box : BoundingBox
  pub right_box : BoundingBox
  pub is_left : IsBoxOf (cover_pixel margin_order p) left left_box
  pub is_right : IsBoxOf (cover_pixel margin_order q) right right_box
  pub gap : gap2 ≡ gap2_of left_box right_box
  pub within : gap2 ≤ r2
  pub apart : ¬ (AreNear parts margin_order p q)

abbrev pub NoneTooNear : List Pixel → ℕ → ℕ → List Row → List Row → Type 0
NoneTooNear parts margin_order r2 left right = (p q gap2 : ℕ) → ¬ (IsTooNear parts margin_order r2 left right p q gap2)

-- of all such pairs the least, by the left, then the right pixel
pub record IsLeastTooNear (parts : List Pixel) (margin_order r2 : ℕ) (left right : List Row) (p q gap2 : ℕ) : Type 0 where
  pub too_near : IsTooNear parts margin_order r2 left right p q gap2
  pub least : (a b gap : ℕ) → IsTooNear parts margin_order r2 left right a b gap → (p < a) ⊎ ((p ≡ a) × (q ≤ b))

-- a row lies in the partition that contains the left row, or in the margin of that partition
pub record IsInItsPartition (parts : List Pixel) (margin_order : ℕ) (left row : Row) : Type 0 where
  pub part : Pixel
  pub member : Contains parts part
  pub holds : PixelContains part left
  pub has : PixelContains part row ⊎ IsInMargin part margin_order row

-- no partition contains the left row, and a row lies in one that contains a neighbour of the left row's pixel of the margin order
pub record IsInANeighbour (parts : List Pixel) (margin_order : ℕ) (left row : Row) : Type 0 where
  pub uncovered : All (λ part. ¬ (PixelContains part left)) parts
  pub part : Pixel
  pub member : Contains parts part
  pub neighbour : ℕ
  pub touches : Touch margin_order (pixel_of margin_order left.hp) neighbour
  pub inside : LiesIn (record { order = margin_order; number = neighbour }) part
  pub has : PixelContains part row

-- the search for a left row reads a row
abbrev pub IsRead : List Pixel → ℕ → Row → Row → Type 0
IsRead parts margin_order left row = IsInItsPartition parts margin_order left row ⊎ IsInANeighbour parts margin_order left row
