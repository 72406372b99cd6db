-- The coverage test over lists of boxes.
use Rattle.std.specs.Prelude.{◌≡◌, ◌<◌, ◌≤◌, ◌⊎◌, ℕ, List, Option, Some, None, All, AllPairs, Any, Contains}
use Rattle.hx_base.specs.declared.pixel.Pixel.{Pixel}
use Rattle.hx_base.specs.declared.row.Row.{Row}
use Rattle.hx_base.specs.Boxes.{IsBoxOf, gap2_of}
use Rattle.hx_base.specs.Coverage.{AreNear}
use Rattle.hx_base.specs.Pixels.{pixel_of}
use Rattle.hx_cover.specs.CoverBoxes.{box_seen}
use Rattle.hx_cover.specs.declared.bounds.CoverBox.{CoverBox}
use Rattle.hx_cover.specs.declared.bounds.TooNear.{TooNear}

-- the boxes of all pixels of an order that contain rows, ascending
pub record AreBoxes (order : ℕ) (rows : List Row) (boxes : List CoverBox) : Type 0 where
  pub each : All (λ seen. IsBoxOf (record { order = order; number = seen.pixel }) rows (box_seen seen)) boxes
  pub all : All (λ row. Any (λ seen. seen.pixel ≡ pixel_of order row.hp) boxes) rows
  pub ordered : AllPairs (λ a b. a.pixel < b.pixel) boxes

-- the gap of two boxes is within the radius, and their pixels aren't near
pub record AreTooNear (parts : List Pixel) (margin_order r2 : ℕ) (a b : CoverBox) : Type 0 where
  pub within : gap2_of (box_seen a) (box_seen b) ≤ r2
  pub apart : ¬ (AreNear parts margin_order a.pixel b.pixel)

-- the least of such pairs, by the left, then the right pixel
pub record IsFoundFirst (parts : List Pixel) (margin_order r2 : ℕ) (left right : List CoverBox) (found : TooNear) : Type 0 where
  pub a : CoverBox
  pub b : CoverBox
  pub is_left : Contains left a
  pub is_right : Contains right b
  pub too_near : AreTooNear parts margin_order r2 a b
  pub left_is : found.left ≡ a.pixel
  pub right_is : found.right ≡ b.pixel
  pub gap_is : found.gap2 ≡ gap2_of (box_seen a) (box_seen b)
  pub least : (c d : CoverBox) → Contains left c → Contains right d → AreTooNear parts margin_order r2 c d → (a.pixel < c.pixel) ⊎ ((a.pixel ≡ c.pixel) × (b.pixel ≤ d.pixel))

-- the least of such pairs, or none where there is none
abbrev pub IsFirstTooNear : List Pixel → ℕ → ℕ → List CoverBox → List CoverBox → Option TooNear → Type 0
IsFirstTooNear parts margin_order r2 left right None = All (λ a. All (λ b. ¬ (AreTooNear parts margin_order r2 a b)) right) left
IsFirstTooNear parts margin_order r2 left right (Some found) = IsFoundFirst parts margin_order r2 left right found
