-- The names of files inside a folder, and their paths.
use Rattle.std.specs.Prelude.{◌≢◌, ◌++◌, ◌∷◌, ℕ, List, [], All, Contains, codes, nat_eq}
use Rattle.std.specs.List.{slice_split}

-- not empty, and no step to the same folder or to the one above
abbrev pub IsPart : List ℕ → Type 0
IsPart part = (part ≢ []) × (part ≢ codes ".") × (part ≢ codes "..")

-- what stands between the slashes of a name
abbrev pub parts : List ℕ → List (List ℕ)
parts name = slice_split (λ byte. nat_eq byte 47) name

-- a name whose file lies inside the folder, however deep: not empty, not absolute, each part one step down
pub record StaysInside (name : List ℕ) : Type 0 where
  pub steps : All IsPart (parts name)
  pub no_nul : ¬ (Contains name 0)

-- a folder by its path, where that is empty the current one
abbrev pub root_of : List ℕ → List ℕ
root_of [] = codes "."
root_of (first ∷ rest) = first ∷ rest

-- the path of a file inside a folder
abbrev pub path_in : List ℕ → List ℕ → List ℕ
path_in root name = root ++ 47 ∷ name
