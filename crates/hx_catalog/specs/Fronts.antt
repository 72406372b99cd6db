-- What stands at the front of a text.
use Rattle.std.specs.Prelude.{◌≡◌, ◌≢◌, ◌<◌, ◌≤◌, ◌-◌, ◌^◌, ◌++◌, ◌∷◌, ℕ, List, MatchResult, Result, length, slice_index}
use Rattle.std.specs.Borrow.{Bor}
use Rattle.std.specs.List.{AllByRecursion}
use Rattle.hx_base.specs.declared.refusal.SpillRefusal.{SpillRefusal}
use Rattle.hx_base.specs.declared.refusal.SpillRefusal.TheVariants.{Damaged}

-- a text begins by what spells a value, and a byte that ends it; a rest follows
abbrev pub Begins : {X : Type 0} → (X → Type 0) → (X → List ℕ) → ℕ → List ℕ → X → List ℕ → Type 0
Begins Fits spelled end text x rest = Fits x × (text ≡ spelled x ++ end ∷ rest)

-- it begins by no such value
abbrev pub BeginsByNone : {X : Type 0} → (X → Type 0) → (X → List ℕ) → ℕ → List ℕ → Type 0
BeginsByNone {X} Fits spelled end text = (x : X) (rest : List ℕ) → Fits x → text ≢ spelled x ++ end ∷ rest

-- the numbers that the texts have
abbrev pub FitsWord : ℕ → Type 0
FitsWord n = n < 2 ^ 64

-- digits that are some number's decimal text: at least one, and `0` stands first only alone
pub record HasNoLeadingZero (digits : List ℕ) : Type 0 where
  pub some : 0 < length digits
  pub alone : slice_index digits 0 ≡ 48 → length digits ≡ 1

-- the numbers from one to another
abbrev pub IsFrom : ℕ → ℕ → ℕ → Type 0
IsFrom least most n = (least ≤ n) × (n ≤ most)

-- no newline
abbrev pub HasNoNewline : List ℕ → Type 0
HasNoNewline text = AllByRecursion (λ byte. byte ≢ 10) text

-- damage at a line, where no line of some values stands there
abbrev pub IsNoLine : {X : Type 0} → (X → Type 0) → (X → List ℕ) → List ℕ → List ℕ → SpillRefusal → Type 0
IsNoLine Fits spelled text rest given = (given ≡ Damaged (length text - length rest)) × BeginsByNone Fits spelled 10 rest

-- what a reader of one line answers: the value of the line, and what follows it; or damage there
abbrev pub ReadsLine : {X : Type 0} → (X → Type 0) → (X → List ℕ) → List ℕ → List ℕ → Result (X × Bor (List ℕ)) SpillRefusal → Type 0
ReadsLine Fits spelled text rest read = MatchResult read (λ line. Begins Fits spelled 10 rest line.0 line.1.now) (IsNoLine Fits spelled text rest)
