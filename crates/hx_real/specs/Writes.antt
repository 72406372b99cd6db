-- What is left by writing bytes whole.
use Rattle.std.specs.Prelude.{ℕ, List, take, Option, Result, Ok, Err}
use Rattle.std.specs.Io.KnownBytes.{Appends}

-- where the writer tells what it holds: all of the bytes behind that; after a fault some of them from the front
abbrev pub WritesOn : {E : Type 0} → Option (List ℕ) → Option (List ℕ) → List ℕ → Result (Unit {0}) E → Type 0
WritesOn before now bytes (Ok done) = Appends before now bytes
WritesOn before now bytes (Err fault) = (count : ℕ) × Appends before now (take count bytes)
