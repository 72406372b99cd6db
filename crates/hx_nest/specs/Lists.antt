-- Ascending lists of pixels.
use Rattle.std.specs.Prelude.{◌≡◌, ◌↔◌, ◌⊎◌, ◌+◌, ◌<◌, ◌≤◌, List, ℕ, AllPairs, Contains, length}

abbrev pub Ascends : List ℕ → Type 0
Ascends pixels = AllPairs (λ a b. a < b) pixels

-- a list gains a pixel, if it lacks it
pub record Adds (pixel : ℕ) (old new : List ℕ) : Type 0 where
  pub ascending : Ascends new
  pub members : (q : ℕ) → Contains new q ↔ (Contains old q ⊎ (q ≡ pixel))
  pub count : length new ≤ length old + 1
