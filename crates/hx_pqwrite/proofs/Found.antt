-- Each of several names that differ is found once, at its own place.
use Rattle.std.proofs.Common.{◌≡◌, ℕ, zero, suc, ◌+◌, ◌<◌, List, [], ◌∷◌, length, map, false, refl, sym, ap, ◌∙◌, inl, inr, arith, get_or}
use Rattle.std.specs.Prelude.{◌≢◌, AllPairs, nat_eq}
use Rattle.std.specs.Cmp.Lexicographic.{pointwise}
use Rattle.std.proofs.lemmas.Bool.{cases_Bool}
use Rattle.std.proofs.lemmas.Slice.Eq.{bytes_eq-Decides}
use Rattle.hx_pqread.specs.Columns.{places_of}
use Rattle.hx_pqwrite.specs.Files.{leaf_of}

-- the first of the names has the place at among all names, and so on
abbrev pub AreFound : (all : List (List ℕ)) → (at : ℕ) → (names : List (List ℕ)) → Type 0
AreFound all at [] = Unit {0}
AreFound all at (name ∷ names) = (places_of name 0 (map leaf_of all) ≡ at ∷ []) × AreFound all (at + 1) names

other_name : (a b : List ℕ) → a ≢ b → pointwise nat_eq a b ≡ false
other_name a b differ = elim (cases_Bool (pointwise nat_eq a b)) [
  | inl same ↦ absurd (differ ((bytes_eq-Decides a b).0 same))
  | inr other ↦ other
]

no_place : (name : List ℕ) (names : List (List ℕ)) (at : ℕ) → ((k : ℕ) → k < length names → get_or names k [] ≢ name) → places_of name at (map leaf_of names) ≡ []
no_place name [] at differ = refl
no_place name (first ∷ names) at differ =
    rw (other_name first name (differ 0 (omega arith))) (no_place name names (at + 1) (λ k within. differ (suc k) (omega (arith, within))))

one_place : (names : List (List ℕ)) (at k : ℕ) → k < length names → AllPairs (λ (name : List ℕ) other. name ≢ other) names → places_of (get_or names k []) at (map leaf_of names) ≡ (at + k) ∷ []
one_place [] at k within differ = absurd (omega (arith, within))
one_place (name ∷ names) at zero within differ =
    let others : places_of name (at + 1) (map leaf_of names) ≡ [] = no_place name names (at + 1) (λ k few same. differ 0 (suc k) [] (omega arith) (omega (arith, few)) (sym same)) in
    let place : at ≡ at + 0 = omega arith in
    rw ((bytes_eq-Decides name name).1 refl, others) (ap (λ (n : ℕ). n ∷ []) place)
one_place (name ∷ names) at (suc k) within differ =
    let place : at + 1 + k ≡ at + suc k = omega arith in
    rw (other_name name (get_or names k []) (differ 0 (suc k) [] (omega arith) within))
    (one_place names (at + 1) k (omega (arith, within)) (λ i j d less few. differ (suc i) (suc j) d (omega (arith, less)) (omega (arith, few))) ∙ ap (λ (n : ℕ). n ∷ []) place)

found_on : (all : List (List ℕ)) → AllPairs (λ (name : List ℕ) other. name ≢ other) all → (at : ℕ) (names : List (List ℕ)) → at + length names ≡ length all
    → ((k : ℕ) → k < length names → get_or names k [] ≡ get_or all (at + k) []) → AreFound all at names
found_on all differ at [] count same = tt
found_on all differ at (name ∷ names) count same =
    let here : name ≡ get_or all (at + 0) [] = same 0 (omega arith) in
    let place : 0 + (at + 0) ≡ at = omega arith in
    let one : places_of (get_or all (at + 0) []) 0 (map leaf_of all) ≡ (0 + (at + 0)) ∷ [] = one_place all 0 (at + 0) (omega (arith, count)) differ in
    let next : (k : ℕ) → at + suc k ≡ at + 1 + k = λ k. omega arith in (
      ap (λ (text : List ℕ). places_of text 0 (map leaf_of all)) here ∙ (one ∙ ap (λ (n : ℕ). n ∷ []) place),
      found_on all differ (at + 1) names (omega (arith, count)) (λ k within. same (suc k) (omega (arith, within)) ∙ ap (λ (n : ℕ). get_or all n []) (next k)),
    )

pub are_found : (names : List (List ℕ)) → AllPairs (λ (name : List ℕ) other. name ≢ other) names → AreFound names 0 names
are_found names differ = found_on names differ 0 names (omega arith) (λ k within. ap (λ (n : ℕ). get_or names n []) (omega arith))
