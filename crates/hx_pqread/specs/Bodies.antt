-- The body of a data page: by what stands there, and as it is read.
use Rattle.std.specs.Prelude.{◌≡◌, ℕ, ℤ, ◌+◌, ◌*◌, List, ◌++◌, length, take, drop, replicate, Bool, true, false, ◌&&◌, ◌==◌, nat_le, Option, Some, None, if◌then◌else◌}
use Rattle.std.specs.Int.{w32, from_le_bytes}
use Rattle.std.specs.Option.{option_map}
use Rattle.hx_pqread.specs.declared.layout.Layout.{Layout}
use Rattle.hx_pqread.specs.declared.levels.Told.{Told}
use Rattle.hx_pqread.specs.Runs.{HasLevels}
use Rattle.hx_pqread.specs.Levels.{◌>>=◌, levels_in, given, told_of}
use Rattle.hx_pqread.specs.Numbers.{size, AreNumbers, numbers_at}
use Rattle.hx_pqread.specs.Values.{present, all_there, levels_of, spread}

-- the body of a REQUIRED column: numbers, none of them absent, and nothing else
abbrev pub IsRequiredBody : (is_wide : Bool) → (body : List ℕ) → (values : List (Option ℤ)) → Type 0
IsRequiredBody is_wide body values = (numbers : List ℤ) × (values ≡ all_there numbers) × AreNumbers is_wide body numbers

-- the body of an OPTIONAL column: four bytes of length, so many bytes in which the values' levels stand, the numbers that are there, and nothing else
pub record IsOptionalBody (is_wide : Bool) (body : List ℕ) (values : List (Option ℤ)) : Type 0 where
  pub size : List ℕ
  pub runs : List ℕ
  pub numbers : List ℕ
  pub parts : body ≡ size ++ (runs ++ numbers)
  pub four : length size ≡ 4
  pub size_is : from_le_bytes w32 size ≡ length runs
  pub levels : HasLevels (length values) runs (levels_of values)
  pub there : AreNumbers is_wide numbers (present values)

abbrev pub IsBodyOf : (is_optional is_wide : Bool) → (body : List ℕ) → (values : List (Option ℤ)) → Type 0
IsBodyOf true is_wide body values = IsOptionalBody is_wide body values
IsBodyOf false is_wide body values = IsRequiredBody is_wide body values

-- the body of these values
abbrev pub IsBody : Layout → (body : List ℕ) → (values : List (Option ℤ)) → Type 0
IsBody layout body values = IsBodyOf layout.is_optional layout.is_wide body values

-- ---- reading

-- the length of the levels, which stands in the first four bytes
abbrev pub levels_len : List ℕ → ℕ
levels_len body = from_le_bytes w32 (take 4 body)

-- the levels of an OPTIONAL body of so many values, and the bytes of its numbers
unfoldable pub optional_parts : (count : ℕ) → List ℕ → Option (List ℕ × List ℕ)
optional_parts count body =
    if nat_le 4 (length body) && nat_le (4 + levels_len body) (length body)
    then option_map (λ levels. (levels, drop (4 + levels_len body) body)) (levels_in count (take (levels_len body) (drop 4 body)))
    else None

-- The levels of a body of so many values, and the bytes of its numbers. A REQUIRED body is numbers alone, and all its values are there.
abbrev pub body_parts : (is_optional : Bool) → (count : ℕ) → List ℕ → Option (List ℕ × List ℕ)
body_parts is_optional count body = if is_optional then optional_parts count body else Some (replicate count 1, body)

-- what the levels of a body say, and the bytes of its numbers
abbrev pub told_parts : Option (List ℕ × List ℕ) → Option (Told × List ℕ)
told_parts None = None
told_parts (Some parts) = Some (told_of parts.0, parts.1)

-- the values with these levels: a number for each level 1, and nothing else
unfoldable pub spread_at : (is_wide : Bool) → (levels bytes : List ℕ) → Option (List (Option ℤ))
spread_at is_wide levels bytes =
    if length bytes == given levels * size is_wide
    then Some (spread levels (numbers_at is_wide (given levels) bytes))
    else None

-- the values of a body of so many
unfoldable pub body_values : Layout → (count : ℕ) → List ℕ → Option (List (Option ℤ))
body_values layout count body = do
  parts ← body_parts layout.is_optional count body
  spread_at layout.is_wide parts.0 parts.1
