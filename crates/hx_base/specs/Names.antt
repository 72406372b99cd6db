-- Names of catalogues.
use Rattle.std.specs.Prelude.{◌≡◌, ◌≤◌, ◌⊎◌, ℕ, List, length, All, codes}
use Rattle.hx_base.specs.FileWords.{EndsIn}

-- a letter from a to z, a digit or an underscore
abbrev pub IsNameByte : ℕ → Type 0
IsNameByte byte = ((97 ≤ byte) × (byte ≤ 122)) ⊎ ((48 ≤ byte) × (byte ≤ 57)) ⊎ (byte ≡ 95)

-- the rule of a name: the end `_margin` is kept for margin catalogues
pub record IsName (text : List ℕ) : Type 0 where
  pub least : 1 ≤ length text
  pub most : length text ≤ 32
  pub bytes : All IsNameByte text
  pub no_margin : ¬ (EndsIn (codes "_margin") text)
