-- The text of a cross-match. r2 is the square of the radius.
use Rattle.std.specs.Prelude.{◌++◌, ◌∷◌, ℕ, List, [], if◌then◌else◌, nat_le, Option, Some, None, is_some, filter, length, codes}
use Rattle.std.specs.Fmt.{decimal, signed_decimal}
use Rattle.std.specs.List.{flat_map}
use Rattle.hx_base.specs.Chords.{chord2_of}
use Rattle.hx_base.specs.Nearest.{nearer_of}
use Rattle.hx_base.specs.declared.row.Row.{Row}

-- a row, where it is within the radius
abbrev pub if_within : Row → ℕ → Row → Option Row
if_within from r2 row = if nat_le (chord2_of from row) r2 then Some row else None

-- the match of a row: of all rows within the radius the nearest, or none where there is none
unfoldable pub nearest_of : Row → ℕ → List Row → Option Row
nearest_of from r2 [] = None
nearest_of from r2 (row ∷ rows) = nearer_of from (if_within from r2 row) (nearest_of from r2 rows)

-- a row's id and position
abbrev pub key_text : Row → List ℕ
key_text row = signed_decimal row.id ++ 44 ∷ decimal row.hp

-- the match's id, position and squared chord, or three empty fields
abbrev pub found_text : Row → Option Row → List ℕ
found_text left None = codes ",,"
found_text left (Some found) = key_text found ++ 44 ∷ decimal (chord2_of left found)

-- the line of a left row and its match
abbrev pub match_line : Row → Option Row → List ℕ
match_line left found = key_text left ++ 44 ∷ found_text left found ++ 10 ∷ []

-- the lines of left rows, each with its match of all right rows
abbrev pub match_lines : ℕ → List Row → List Row → List ℕ
match_lines r2 right left = flat_map (λ row. match_line row (nearest_of row r2 right)) left

-- how many left rows have a match
abbrev pub matched_rows : ℕ → List Row → List Row → ℕ
matched_rows r2 right left = length (filter (λ row. is_some (nearest_of row r2 right)) left)

abbrev pub header : List ℕ
header = codes "id,_healpix_29,match_id,match_healpix_29,chord2\n"

abbrev pub match_text : ℕ → List Row → List Row → List ℕ
match_text r2 right left = header ++ match_lines r2 right left
