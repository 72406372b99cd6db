-- Words of the command line that name an input.
use Rattle.std.specs.Prelude.{◌≡◌, ◌≢◌, ◌≤◌, ◌⊎◌, ◌++◌, ℕ, List, length, All, slice_index, codes}

-- no control character
abbrev pub IsPlain : ℕ → Type 0
IsPlain byte = (32 ≤ byte) × (byte ≢ 127)

abbrev pub EndsIn : List ℕ → List ℕ → Type 0
EndsIn suffix text = (front : List ℕ) × (text ≡ front ++ suffix)

abbrev pub IsCsvName : List ℕ → Type 0
IsCsvName text = EndsIn (codes ".csv") text

abbrev pub IsParquetName : List ℕ → Type 0
IsParquetName text = EndsIn (codes ".parquet") text

-- the rule of a file word
pub record IsFileWord (text : List ℕ) : Type 0 where
  pub least : 1 ≤ length text
  pub most : length text ≤ 255
  pub plain : All IsPlain text
  pub no_option : slice_index text 0 ≢ 45
  pub suffix : IsCsvName text ⊎ IsParquetName text
