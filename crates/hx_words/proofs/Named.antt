-- Lists whose parts have names.
use Rattle.std.proofs.Common.{◌≡◌, ◌+◌, ◌<◌, ◌++◌, ◌∷◌, String, Global, string_bytes, take, ℕ, List, [], length, get_or, map, sym}
use Rattle.std.proofs.lemmas.List.{map-append, take_more}

-- what is made for each name in turn has the names
pub named_next : {S : Type 0} (label : S → List ℕ) (made more : List S) (names : List (String Global)) (i : ℕ) (x : S) (name : String Global) → i < length names → name ≡ get_or names i name
    → more ≡ made ++ x ∷ [] → label x ≡ string_bytes name → map label made ≡ map string_bytes (take i names) → map label more ≡ map string_bytes (take (i + 1) names)
named_next label made more names i x name below is pushed same so_far =
    rw (pushed, map-append, same, so_far, take_more names i name below, ← is) (sym (map-append string_bytes (take i names) (name ∷ [])))
