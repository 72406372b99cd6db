-- The text of the pixels round a pixel.
use Rattle.std.specs.Prelude.{◌≡◌, ◌<◌, ◌↔◌, ◌++◌, ◌∷◌, ℕ, List, [], AllPairs, Contains}
use Rattle.std.specs.Fmt.{decimal}
use Rattle.std.specs.List.{flat_map}
use Rattle.hx_base.specs.Touching.{Touch}

-- numbers with a blank between
abbrev pub spaced : List ℕ → List ℕ
spaced [] = []
spaced (first ∷ numbers) = decimal first ++ flat_map (λ number. 32 ∷ decimal number) numbers

-- a text behind which more is to come: with a blank, unless it is empty
abbrev pub with_blank : List ℕ → List ℕ
with_blank [] = []
with_blank (byte ∷ bytes) = byte ∷ bytes ++ 32 ∷ []

-- the pixels that touch a pixel of an order, ascending, and a newline
abbrev pub IsAroundText : ℕ → ℕ → List ℕ → Type 0
IsAroundText order pixel text =
    (pixels : List ℕ) × AllPairs (λ a b. a < b) pixels × ((q : ℕ) → Contains pixels q ↔ Touch order pixel q) × (text ≡ spaced pixels ++ 10 ∷ [])
