-- The text of the partitions of rows.
use Rattle.std.specs.Prelude.{◌≡◌, ◌++◌, ◌∷◌, ℕ, List, []}
use Rattle.std.specs.Fmt.{decimal}
use Rattle.std.specs.List.{flat_map}
use Rattle.hx_base.specs.Partitions.{ArePartitions}
use Rattle.hx_base.specs.Pixels.{count_in}
use Rattle.hx_base.specs.declared.pixel.Pixel.{Pixel}
use Rattle.hx_base.specs.declared.row.Row.{Row}

-- a line: the pixel's order, its number, its count
abbrev pub partition_line : Pixel → ℕ → List ℕ
partition_line pixel count = decimal pixel.order ++ 44 ∷ [] ++ decimal pixel.number ++ 44 ∷ [] ++ decimal count ++ 10 ∷ []

-- the lines of pixels with the counts of rows
abbrev pub plan_text : List Row → List Pixel → List ℕ
plan_text rows pixels = flat_map (λ pixel. partition_line pixel (count_in pixel rows)) pixels

-- text is the lines of the partitions of rows
abbrev pub IsPlanText : ℕ → ℕ → ℕ → List Row → List ℕ → Type 0
IsPlanText lowest highest threshold rows text =
    (pixels : List Pixel) × ArePartitions (λ pixel. count_in pixel rows) lowest highest threshold pixels × (text ≡ plan_text rows pixels)
