-- Reading one part of a split file alone: the first twelve bytes tell how long the head is, the head tells where the part's rows stand,
-- and their bytes are the rows.
use Rattle.std.specs.Prelude.{◌≡◌, ◌+◌, ◌-◌, ◌*◌, ◌^◌, ◌<◌, ◌≤◌, ℕ, List, Option, Some, None, Ok, Err, [], min, length, take, drop, codes, true}
use Rattle.hx_base.specs.Columns.{◌>>=◌}
use Rattle.hx_base.specs.declared.refusal.SpillRefusal.{SpillRefusal}
use Rattle.hx_base.specs.declared.refusal.SpillRefusal.TheVariants as refusal
use Rattle.hx_base.specs.declared.row.Row.{Row}
use Rattle.hx_spill.specs.Items.{Read, each, mark, number}
use Rattle.hx_spill.specs.Splits.{place_of_entry, row_behind, row_width, slice, slice_place}
use Rattle.hx_spill.specs.declared.split.Placed.{Placed}
use Rattle.hx_spill.specs.declared.split.SlicePlace.{SlicePlace}

-- how many bytes the head takes, where a u64 holds that many
unfoldable pub head_width : List ℕ → Read ℕ
head_width front = do
  _ ← mark (codes "HXS1") front
  n ← number 8 (λ _. true) 4 front
  Ok (min (place_of_entry n) (2 ^ 64 - 1))

-- what is read of bytes that begin at a place of a file: a damage is told by its place in the file
abbrev pub refused_at : ℕ → SpillRefusal → SpillRefusal
refused_at start (refusal.Damaged place) = refusal.Damaged (start + place)
refused_at start refusal.Memory = refusal.Memory

abbrev pub begun_at : {X : Type 0} → ℕ → Read X → Read X
begun_at start (Ok x) = Ok x
begun_at start (Err refused) = Err (refused_at start refused)

-- a damage is before a place
abbrev pub IsBelow : ℕ → SpillRefusal → Type 0
IsBelow end (refusal.Damaged place) = place < end
IsBelow end refusal.Memory = Unit {0}

-- the rows of a part, by their place in the file and the bytes from there on
abbrev pub rows_from : SlicePlace → List ℕ → Read (List Row)
rows_from place bytes = begun_at place.at (each place.rows (row_behind 0 bytes))

-- the bytes of a part's rows
abbrev pub bytes_at : SlicePlace → List ℕ → List ℕ
bytes_at place bytes = take (row_width * place.rows) (drop place.at bytes)

-- what is found of a part leads to its rows: they stand in the file, and their bytes are read as they
pub record AreReadAlone (bytes : List ℕ) (place : SlicePlace) (rows : List Row) : Type 0 where
  pub within : place.at + row_width * place.rows ≤ length bytes
  pub read : rows_from place (bytes_at place bytes) ≡ Ok rows

abbrev pub LeadsTo : List ℕ → Option SlicePlace → List Row → Type 0
LeadsTo bytes None rows = rows ≡ []
LeadsTo bytes (Some place) rows = AreReadAlone bytes place rows

-- a file from which each part's rows can be read alone
pub record HasSlices (bytes : List ℕ) (placed : List Placed) : Type 0 where
  pub width : ℕ
  pub front : head_width (take 12 bytes) ≡ Ok width
  pub within : width ≤ length bytes
  pub each_part : (part : ℕ) → (found : Option SlicePlace) × (slice_place part (take width bytes) ≡ Ok found) × LeadsTo bytes found (slice part placed)
