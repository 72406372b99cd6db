-- Files of items one after another, each with its rule. An item that is cut short or breaks its rule is damage at its place, and so is the
-- first byte behind the last item. An entry's rule speaks of the entries before it too: so entries that break a rule together break it
-- with the first item with which those up to it do.
use Rattle.std.specs.Prelude.{◌≡◌, ◌==◌, ◌⊎◌, ◌+◌, ◌++◌, ◌∷◌, [], ℕ, zero, suc, nat_le, nat_lt, Bool, if◌then◌else◌, List, length, drop, Result, Ok, Err, ⊤}
use Rattle.byteorder.specs.Endian.{little_number}
use Rattle.hx_base.specs.Columns.{◌>>=◌}
use Rattle.hx_base.specs.declared.refusal.SpillRefusal.{SpillRefusal}
use Rattle.hx_base.specs.declared.refusal.SpillRefusal.TheVariants as refusal

-- what is read
abbrev pub Read : Type 0 → Type 0
Read X = Result X SpillRefusal

-- a value that keeps its rule
abbrev pub kept : {X : Type 0} → Bool → X → (place : ℕ) → Read X
kept keeps x place = if keeps then Ok x else Err (refusal.Damaged place)

-- the value of so many bytes at a place, which are there
abbrev pub whole : {X : Type 0} → (width : ℕ) → (List ℕ → X) → (place : ℕ) → List ℕ → Read X
whole width value place bytes = if nat_lt (length bytes) (place + width) then Err (refusal.Damaged place) else Ok (value (drop place bytes))

-- an item
abbrev pub item : {X : Type 0} → (width : ℕ) → (List ℕ → X) → (keeps : X → Bool) → (place : ℕ) → List ℕ → Read X
item width value keeps place bytes = whole width value place bytes >>= λ x. kept (keeps x) x place

-- a number of so many bytes, the lowest first
abbrev pub number : (width : ℕ) → (keeps : ℕ → Bool) → (place : ℕ) → List ℕ → Read ℕ
number width keeps place bytes = item width (little_number width) keeps place bytes

-- the four bytes by which a format is known
abbrev pub mark : List ℕ → List ℕ → Read ℕ
mark word bytes = number 4 (λ found. found == little_number 4 word) 0 bytes

-- so many entries, each by those before it
unfoldable pub each : {X : Type 0} → ℕ → (List X → Read X) → Read (List X)
each zero entry = Ok []
each (suc n) entry = each n entry >>= λ before. entry before >>= λ next. Ok (before ++ next ∷ [])

-- a file ends behind its last item
abbrev pub ended : (place : ℕ) → List ℕ → Read ⊤
ended place bytes = kept (nat_le (length bytes) place) tt place

-- why nothing is answered: what is read is that damage, or memory ran out
abbrev pub Refuses : {Y : Type 0} → SpillRefusal → Read Y → Type 0
Refuses refused read = (refused ≡ refusal.Memory) ⊎ (read ≡ Err refused)

-- what a reader answers, seen by a view, is what is read, unless memory ran out
abbrev pub Gives : {X Y : Type 0} → (X → Y) → Result X SpillRefusal → Read Y → Type 0
Gives view (Ok x) read = read ≡ Ok (view x)
Gives view (Err refused) read = Refuses refused read
