-- The text of a histogram of rows.
use Rattle.std.specs.Prelude.{◌==◌, ◌*◌, ◌^◌, ◌++◌, ◌∷◌, ℕ, zero, suc, if◌then◌else◌, List, []}
use Rattle.std.specs.Fmt.{decimal}
use Rattle.std.specs.List.{flat_map}
use Rattle.hx_base.specs.Pixels.{count_in}
use Rattle.hx_base.specs.declared.pixel.Pixel.{Pixel}
use Rattle.hx_base.specs.declared.row.Row.{Row}

-- a line: the pixel, a comma, its count
abbrev pub line_of : ℕ → ℕ → List ℕ
line_of pixel count = decimal pixel ++ 44 ∷ [] ++ decimal count ++ 10 ∷ []

-- the line of a pixel that contains rows
abbrev pub pixel_line : List Row → Pixel → List ℕ
pixel_line rows pixel = if count_in pixel rows == 0 then [] else line_of pixel.number (count_in pixel rows)

-- the numbers below n, ascending
unfoldable pub numbers_below : ℕ → List ℕ
numbers_below zero = []
numbers_below (suc n) = numbers_below n ++ n ∷ []

-- the lines of all pixels of an order, ascending
unfoldable pub histogram_text : ℕ → List Row → List ℕ
histogram_text order rows = flat_map (λ number. pixel_line rows (record { order = order; number = number })) (numbers_below (12 * 4 ^ order))
