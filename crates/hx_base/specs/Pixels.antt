-- Pixels of HEALPix's nested scheme: the parent of pixel p is p div 4, at the order before.
use Rattle.std.specs.Prelude.{◌≡◌, ◌==◌, ◌+◌, ◌-◌, ◌*◌, ◌/◌, ◌^◌, ◌<◌, ◌≤◌, ℕ, List, All, AllPairs, filter, length}
use Rattle.hx_base.specs.declared.row.Row.{Row}
use Rattle.hx_base.specs.declared.pixel.Pixel.{Pixel}

-- a pixel that there is
pub record IsPixel (pixel : Pixel) : Type 0 where
  pub order : pixel.order ≤ 29
  pub number : pixel.number < 12 * 4 ^ pixel.order

-- the order-k pixel of an order-29 position
unfoldable pub pixel_of : ℕ → ℕ → ℕ
pixel_of k position = position / 4 ^ (29 - k)

-- a pixel holds an order-29 position
abbrev pub HoldsPosition : Pixel → ℕ → Type 0
HoldsPosition pixel position = pixel_of pixel.order position ≡ pixel.number

-- the first order-29 position of a pixel, and the one behind its last
abbrev pub first_position : Pixel → ℕ
first_position pixel = pixel.number * 4 ^ (29 - pixel.order)

abbrev pub end_position : Pixel → ℕ
end_position pixel = (pixel.number + 1) * 4 ^ (29 - pixel.order)

-- the pixel some orders up in which a pixel lies
abbrev pub ancestor : ℕ → Pixel → Pixel
ancestor steps pixel = record { order = pixel.order - steps; number = pixel.number / 4 ^ steps }

-- a pixel lies in another one or is that one
pub record LiesIn (inner outer : Pixel) : Type 0 where
  pub order : outer.order ≤ inner.order
  pub number : inner.number / 4 ^ (inner.order - outer.order) ≡ outer.number

-- no position lies in both
abbrev pub AreDisjoint : Pixel → Pixel → Type 0
AreDisjoint a b = (position : ℕ) → HoldsPosition a position → HoldsPosition b position → ⊥

-- pixels of any orders that share no position, by their first positions
pub record AreDisjointInOrder (pixels : List Pixel) : Type 0 where
  pub each : All IsPixel pixels
  pub disjoint : AllPairs AreDisjoint pixels
  pub ordered : AllPairs (λ a b. first_position a < first_position b) pixels

abbrev pub PixelContains : Pixel → Row → Type 0
PixelContains pixel row = HoldsPosition pixel row.hp

-- the rows of a list that a pixel contains, in the list's order
abbrev pub rows_in : Pixel → List Row → List Row
rows_in pixel rows = filter (λ row. pixel_of pixel.order row.hp == pixel.number) rows

-- how many rows of a list a pixel contains
abbrev pub count_in : Pixel → List Row → ℕ
count_in pixel rows = length (rows_in pixel rows)
