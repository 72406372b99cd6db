-- Texts of lines, each ended by a newline, and the first line of a text that breaks a rule.
use Rattle.std.specs.Prelude.{◌≡◌, ◌++◌, ◌∷◌, ◌⊎◌, ⊤, ℕ, List, [], Result, Ok, Err, length}
use Rattle.hx_base.specs.declared.refusal.SpillRefusal.{SpillRefusal}
use Rattle.hx_base.specs.declared.refusal.SpillRefusal.TheVariants as refusal

abbrev pub text_of : List (List ℕ) → List ℕ
text_of [] = []
text_of (line ∷ lines) = line ++ 10 ∷ text_of lines

-- a key and its value
abbrev pub field : List ℕ → List ℕ → List ℕ
field key value = key ++ 61 ∷ value

-- A kind of text has lines for each value of some type; those of a value that fits the kind's rules are lines of the kind.
abbrev pub AreLinesOf : {V : Type 0} → (V → Type 0) → (V → List (List ℕ)) → List (List ℕ) → Type 0
AreLinesOf {V} Fits lines_of lines = (value : V) × Fits value × (lines ≡ lines_of value)

-- lines that more lines can follow as lines of a kind: up to the last of them no rule is broken
abbrev pub NoneBroken : (List (List ℕ) → Type 0) → List (List ℕ) → Type 0
NoneBroken AreLines front = (more : List (List ℕ)) × AreLines (front ++ more)

-- The place, in bytes, of the first line that breaks a rule of a kind of text: up to the line before it none is broken, whatever line stands there breaks one, and the text doesn't end there as one of the kind.
-- A line that lacks its newline is no line. Where one is absent, the place is the text's end.
pub record IsFirstBroken (AreLines : List (List ℕ) → Type 0) (text : List ℕ) (place : ℕ) : Type 0 where
  pub front : List (List ℕ)
  pub rest : List ℕ
  pub form : text ≡ text_of front ++ rest
  pub at : place ≡ length (text_of front)
  pub sound : NoneBroken AreLines front
  pub broken : (line more : List ℕ) → rest ≡ line ++ 10 ∷ more → ¬ (NoneBroken AreLines (front ++ line ∷ []))
  pub unfinished : rest ≡ [] → ¬ (AreLines front)

-- why a text isn't read: the first line that breaks a rule, or want of memory, which may always come
abbrev pub IsRefusedFor : (List (List ℕ) → Type 0) → List ℕ → SpillRefusal → Type 0
IsRefusedFor AreLines text (refusal.Damaged place) = IsFirstBroken AreLines text place
IsRefusedFor AreLines text refusal.Memory = ⊤

-- the answer is a value of some kind, or only want of memory comes in its place
abbrev pub OnlyRead : {V : Type 0} → (V → Type 0) → Result V SpillRefusal → Type 0
OnlyRead IsValue (Ok value) = IsValue value
OnlyRead IsValue (Err given) = given ≡ refusal.Memory

-- the answer is damage at a place, or only want of memory comes in its place
abbrev pub OnlyDamagedAt : {V : Type 0} → ℕ → Result V SpillRefusal → Type 0
OnlyDamagedAt place (Ok value) = ⊥
OnlyDamagedAt place (Err given) = (given ≡ refusal.Damaged place) ⊎ (given ≡ refusal.Memory)
