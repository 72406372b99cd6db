-- Reading the levels of a page, run after run; and what they say of the values.
use Rattle.std.specs.Prelude.{ℕ, zero, suc, ◌+◌, ◌-◌, ◌/◌, ◌%◌, ◌<◌, ◌≤◌, List, [], ◌∷◌, ◌++◌, length, take, drop, ◌&&◌, ◌==◌, nat_lt, nat_le, if◌then◌else◌, Option, Some, None, Ok, Err, replicate, slice_index, IfSome}
use Rattle.std.specs.List.{flat_map}
use Rattle.std.specs.Option.{option_map, option_or}
use Rattle.hx_thrift.specs.Texts.{Read}
use Rattle.hx_thrift.specs.Reading.{varint_at}
use Rattle.hx_pqread.specs.declared.levels.Told.{Told}
use Rattle.hx_pqread.specs.Runs.{group_levels}

infixl 10 ◌>>=◌
abbrev pub ◌>>=◌ : {A B : Type 0} → Option A → (A → Option B) → Option B
(Some x) >>= next = next x
None >>= next = None

-- what is read, and the bytes behind it; or nothing, whatever the refusal
abbrev pub found : {A : Type 0} → Read A → Option (A × List ℕ)
found (Ok x) = Some (x.0, x.1.bytes)
found (Err refusal) = None

-- the header of a run: a varint
unfoldable pub head_at : List ℕ → Option (ℕ × List ℕ)
head_at bytes = found (varint_at (record { at = 0; bytes = bytes }))

-- count equal levels, which one byte gives, and the bytes behind it
unfoldable pub equal_at : (count : ℕ) → List ℕ → Option (List ℕ × List ℕ)
equal_at count bytes =
    if nat_lt 0 (length bytes) && nat_lt (slice_index bytes 0) 2
    then Some (replicate count (slice_index bytes 0), drop 1 bytes)
    else None

-- the levels of count groups, and the bytes behind them
unfoldable pub packed_at : (count : ℕ) → List ℕ → Option (List ℕ × List ℕ)
packed_at count bytes = if nat_le count (length bytes) then Some (flat_map group_levels (take count bytes), drop count bytes) else None

-- the levels of the run that stands at the front, and the bytes behind the run
unfoldable pub run_at : List ℕ → Option (List ℕ × List ℕ)
run_at bytes = do
  head ← head_at bytes
  if head.0 % 2 == 0 then equal_at (head.0 / 2) head.1 else packed_at (head.0 / 2) head.1

-- So many levels. Runs are read until they are given: what the last run has beyond them is passed over, and so are the bytes behind it. Of n bytes at most n begin a run.
unfoldable pub levels_at : (runs wanted : ℕ) → List ℕ → Option (List ℕ)
levels_at runs zero bytes = Some []
levels_at zero (suc wanted) bytes = None
levels_at (suc runs) (suc wanted) bytes = do
  run ← run_at bytes
  more ← levels_at runs (suc wanted - length run.0) run.1
  Some (take (suc wanted) run.0 ++ more)

-- the first count levels of the runs in bytes
abbrev pub levels_in : (count : ℕ) → List ℕ → Option (List ℕ)
levels_in count bytes = levels_at (length bytes) count bytes

-- ---- what levels say

-- how many values are there
abbrev pub given : List ℕ → ℕ
given [] = 0
given (level ∷ levels) = if level == 1 then suc (given levels) else given levels

-- the index of the first value that is absent
abbrev pub missing : List ℕ → Option ℕ
missing [] = None
missing (level ∷ levels) = if level == 1 then option_map suc (missing levels) else Some 0

abbrev pub told_of : List ℕ → Told
told_of levels = record { count = length levels; given = given levels; absent = missing levels }

-- what the levels of a run say, at most wanted of them, and the bytes behind the run
abbrev pub told_run : (wanted : ℕ) → Option (List ℕ × List ℕ) → Option (Told × List ℕ)
told_run wanted None = None
told_run wanted (Some run) = Some (told_of (take wanted run.0), run.1)

-- what levels say, and others behind them
abbrev pub joined : Told → Told → Told
joined first second = record {
  count = first.count + second.count;
  given = first.given + second.given;
  absent = option_or first.absent (option_map (λ index. first.count + index) second.absent);
}

-- no more are there, or absent, than there are
pub record IsWithin (told : Told) : Type 0 where
  pub given : told.given ≤ told.count
  pub absent : IfSome told.absent (λ index. index < told.count)
