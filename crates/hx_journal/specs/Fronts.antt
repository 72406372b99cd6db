-- What stands at the front of a text.
use Rattle.std.specs.Prelude.{◌≡◌, ◌≢◌, ◌<◌, ◌^◌, ◌++◌, ◌∷◌, ℕ, List, length, slice_index}
use Rattle.std.specs.List.{AllByRecursion}

-- a text begins by what spells a value, and a byte that ends it; a rest follows
abbrev pub Begins : {X : Type 0} → (X → Type 0) → (X → List ℕ) → ℕ → List ℕ → X → List ℕ → Type 0
Begins Fits spelled end text x rest = Fits x × (text ≡ spelled x ++ end ∷ rest)

-- it begins by no such value
abbrev pub BeginsByNone : {X : Type 0} → (X → Type 0) → (X → List ℕ) → ℕ → List ℕ → Type 0
BeginsByNone {X} Fits spelled end text = (x : X) (rest : List ℕ) → Fits x → text ≢ spelled x ++ end ∷ rest

-- the numbers that the texts have
abbrev pub FitsWord : ℕ → Type 0
FitsWord n = n < 2 ^ 64

-- digits that are some number's decimal text: at least one, and `0` stands first only alone
pub record HasNoLeadingZero (digits : List ℕ) : Type 0 where
  pub some : 0 < length digits
  pub alone : slice_index digits 0 ≡ 48 → length digits ≡ 1

-- no newline
abbrev pub HasNoNewline : List ℕ → Type 0
HasNoNewline text = AllByRecursion (λ byte. byte ≢ 10) text
