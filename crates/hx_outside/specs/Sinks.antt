-- What a sink means, and what a write leaves where it tells what was written.
use Rattle.std.specs.Prelude.{◌≡◌, ◌++◌, ℕ, List, take, Option, option_map, Result, Ok, Err}

-- what a sink means
pub record SinkMembers (S : Type 0) : Type 0 where
  -- what was written, where it tells it
  pub written : S → Option (List ℕ)
  -- how often it has failed
  pub faults : S → ℕ

-- all of the bytes behind what was there; after a fault some of them from the front
abbrev pub Appends : {E : Type 0} → Option (List ℕ) → List ℕ → Option (List ℕ) → Result (Unit {0}) E → Type 0
Appends before bytes now (Ok done) = now ≡ option_map (λ written. written ++ bytes) before
Appends before bytes now (Err fault) = (count : ℕ) × (now ≡ option_map (λ written. written ++ take count bytes) before)
