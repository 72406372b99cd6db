-- The list of a catalogue's partitions, `partition_info.csv` in HATS.
use Rattle.std.specs.Prelude.{◌<◌, ◌≤◌, ◌^◌, ◌++◌, ◌∷◌, ℕ, List, [], All, codes, length, map}
use Rattle.std.specs.Fmt.{decimal}
use Rattle.hx_base.specs.Limits.{highest_order, most_partitions}
use Rattle.hx_base.specs.Pixels.{AreDisjointInOrder}
use Rattle.hx_base.specs.declared.pixel.Pixel.{Pixel}
use Rattle.hx_catalog.specs.Lines.{AreLinesOf, text_of}

-- the names of the columns
abbrev pub header : List ℕ
header = codes "Norder,Npix"

-- the line of a partition: the order and the number of its pixel
abbrev pub pixel_line : Pixel → List ℕ
pixel_line pixel = decimal pixel.order ++ 44 ∷ decimal pixel.number

abbrev pub list_lines : List Pixel → List (List ℕ)
list_lines pixels = header ∷ map pixel_line pixels

abbrev pub list_text : List Pixel → List ℕ
list_text pixels = text_of (list_lines pixels)

-- the pixels that a list may name
pub record IsList (pixels : List Pixel) : Type 0 where
  pub most : length pixels ≤ most_partitions
  pub orders : All (λ pixel. pixel.order ≤ highest_order) pixels
  pub disjoint : AreDisjointInOrder pixels

abbrev pub AreListLines : List (List ℕ) → Type 0
AreListLines lines = AreLinesOf IsList list_lines lines

-- a list can go on with a pixel
abbrev pub MayFollow : List Pixel → Pixel → Type 0
MayFollow pixels pixel = IsList (pixels ++ pixel ∷ [])

-- what a line of a list may name, whether or not there is such a pixel
pub record IsPixelOfLine (pixel : Pixel) : Type 0 where
  pub order : pixel.order ≤ highest_order
  pub number : pixel.number < 2 ^ 64
