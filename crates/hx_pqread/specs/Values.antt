-- The values of a column, some of which may be absent.
use Rattle.std.specs.Prelude.{ℕ, ℤ, ◌+◌, List, [], ◌∷◌, ◌==◌, if◌then◌else◌, Option, Some, None}

-- the values that are there
abbrev pub present : List (Option ℤ) → List ℤ
present [] = []
present (None ∷ values) = present values
present (Some n ∷ values) = n ∷ present values

-- the row of the first absent value, where the first value has the row at
abbrev pub first_absent : (at : ℕ) → List (Option ℤ) → Option ℕ
first_absent at [] = None
first_absent at (None ∷ values) = Some at
first_absent at (Some n ∷ values) = first_absent (at + 1) values

-- numbers as values none of which is absent
abbrev pub all_there : List ℤ → List (Option ℤ)
all_there [] = []
all_there (n ∷ numbers) = Some n ∷ all_there numbers

-- the levels of values
abbrev pub levels_of : List (Option ℤ) → List ℕ
levels_of [] = []
levels_of (None ∷ values) = 0 ∷ levels_of values
levels_of (Some n ∷ values) = 1 ∷ levels_of values

-- the values with these levels, of which those that are there are the numbers in turn
abbrev pub spread : (levels : List ℕ) → List ℤ → List (Option ℤ)
spread [] numbers = []
spread (level ∷ levels) [] = None ∷ spread levels []
spread (level ∷ levels) (n ∷ numbers) = if level == 1 then Some n ∷ spread levels numbers else None ∷ spread levels (n ∷ numbers)
