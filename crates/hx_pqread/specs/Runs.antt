-- The levels of a page: for each value 1 where it is there, and 0 where it is absent. Parquet's format spells them as runs, one after another.
-- Nothing here reads: which bytes stand for which levels.
use Rattle.std.specs.Prelude.{◌≡◌, ◌⊎◌, ℕ, ◌+◌, ◌*◌, ◌/◌, ◌%◌, ◌<◌, ◌≤◌, List, [], ◌∷◌, ◌++◌, length, take, replicate}
use Rattle.std.specs.List.{flat_map}
use Rattle.hx_thrift.specs.Spelling.{IsVarint, AreAll}

-- the eight levels of a group, which is one byte: the least significant bit first
unfoldable pub group_levels : ℕ → List ℕ
group_levels group =
    group % 2 ∷ group / 2 % 2 ∷ group / 4 % 2 ∷ group / 8 % 2
    ∷ group / 16 % 2 ∷ group / 32 % 2 ∷ group / 64 % 2 ∷ group / 128 % 2 ∷ []

-- behind a header: one byte, which is the level that count values have
abbrev pub IsEqualRun : (count : ℕ) → (body levels : List ℕ) → Type 0
IsEqualRun count body levels = (level : ℕ) × (level < 2) × (body ≡ level ∷ []) × (levels ≡ replicate count level)

-- behind a header: count groups of eight levels
abbrev pub IsPackedRun : (count : ℕ) → (body levels : List ℕ) → Type 0
IsPackedRun count body levels = (length body ≡ count) × (levels ≡ flat_map group_levels body)

-- A run: its header is even where its levels are equal and odd where they stand in groups, and half of it is their count.
pub record IsRun (bytes levels : List ℕ) : Type 0 where
  pub header : List ℕ
  pub body : List ℕ
  pub parts : bytes ≡ header ++ body
  pub count : ℕ
  pub kind : IsVarint header (2 * count) × IsEqualRun count body levels ⊎ IsVarint header (2 * count + 1) × IsPackedRun count body levels

-- the levels of runs, one after another
abbrev pub all_levels : List (List ℕ) → List ℕ
all_levels [] = []
all_levels (levels ∷ runs) = levels ++ all_levels runs

-- Count levels stand in bytes: the bytes begin with whole runs that give at least count levels, of which the first count are these. What is behind is passed over.
pub record HasLevels (count : ℕ) (bytes levels : List ℕ) : Type 0 where
  pub front : List ℕ
  pub rest : List ℕ
  pub parts : bytes ≡ front ++ rest
  pub runs : List (List ℕ)
  pub spelled : AreAll IsRun front runs
  pub enough : count ≤ length (all_levels runs)
  pub first : levels ≡ take count (all_levels runs)
