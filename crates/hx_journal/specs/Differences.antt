-- Where two texts first differ.
use Rattle.std.specs.Prelude.{◌≡◌, ◌≢◌, ℕ, List, Some, slice_get, take}

-- the same up to that place, where both have a byte, and these differ
pub record DifferAt (one other : List ℕ) (place byte another : ℕ) : Type 0 where
  pub before : take place one ≡ take place other
  pub first : slice_get one place ≡ Some byte
  pub second : slice_get other place ≡ Some another
  pub apart : byte ≢ another
