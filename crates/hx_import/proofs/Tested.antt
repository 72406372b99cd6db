-- What tests know of the inputs that they make.
use Rattle.std.proofs.Common.{◌++◌, ◌∷◌, [], ℕ, zero, suc, List, All, arith, map, subst, sym}
use Rattle.std.proofs.lemmas.List.{map-append}
use Rattle.std.proofs.lemmas.List.Elements.{All-append}

-- what holds of one alone
single : (P : List ℕ → Type 0) (y : List ℕ) → P y → All P (y ∷ [])
single P y h zero d less = h
single P y h (suc k) d less = absurd (omega (arith, less))

-- what holds of the names of some sources, and of one more
pub one-more : {X : Type 0} (label : X → List ℕ) (P : List ℕ → Type 0) (xs : List X) (x : X) → All P (map label xs) → P (label x) → All P (map label (xs ++ x ∷ []))
one-more label P xs x all one = subst (All P) (sym (map-append label xs (x ∷ []))) (All-append P (map label xs) (label x ∷ []) all (single P (label x) one))
