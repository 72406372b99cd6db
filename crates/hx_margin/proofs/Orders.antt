-- What is kept of a sorted list, and the rows of a part of sorted rows.
use Rattle.std.proofs.Common.{◌≡◌, ◌∙◌, ◌==◌, ◌+◌, ◌<◌, ◌∷◌, [], ℕ, List, Bool, true, false, filter, length, get_or, refl, sym, ap, subst, arith, inl, inr}
use Rattle.std.specs.Ordering.{is_gt, is_lt, nat_cmp, ordering_then}
use Rattle.std.specs.declared.cmp.Ordering.{Ordering}
use Rattle.std.specs.declared.cmp.Ordering.TheVariants.{Equal}
use Rattle.std.specs.List.Sorted.{IsPermutation, IsSorted}
use Rattle.std.proofs.lemmas.Bool.{cases_Bool}
use Rattle.std.proofs.lemmas.Bool.Decides.{Decides-eqb, nat_tests}
use Rattle.std.proofs.lemmas.List.{get_or-map, length-map}
use Rattle.std.proofs.lemmas.List.Elements.{filter_passes}
use Rattle.std.proofs.lemmas.List.Kept.{IsSortedBy-filter}
use Rattle.std.proofs.lemmas.List.Sorted.{IsPermutation-cons, IsPermutation-map, IsPermutation-refl, IsPermutation-swap, IsPermutation-trans, ranks_by}
use Rattle.std.proofs.lemmas.Map.Lookups.{CmpEqualImpliesEq, exact_pairs, exact_unsigned}
use Rattle.hx_base.specs.declared.row.Row.{Row}
use Rattle.hx_base.specs.Rows.{row_cmp, sorted_rows}
use Rattle.hx_base.specs.Sorted.{placed, sorted}
use Rattle.hx_base.proofs.RowOrder.{only_sorted, rows_exact}
use Rattle.hx_base.proofs.Sorting.{is_sorted_by}
use Rattle.hx_spill.specs.Splits.{placed_cmp, slice}
use Rattle.hx_spill.specs.declared.split.Placed.{Placed}
use Rattle.hx_spill.proofs.Order.{placed_total}

module _ {X : Type 0} (R : X → X → Ordering) (p : X → Bool) where
  filter_behind : (z : X) (xs ys : List X) → IsPermutation (filter p xs) (filter p ys) → IsPermutation (filter p (z ∷ xs)) (filter p (z ∷ ys))
  filter_behind z xs ys h =
      elim (cases_Bool (p z)) [
        | inl yes' ↦ rw yes' (IsPermutation-cons z (filter p xs) (filter p ys) h)
        | inr no' ↦ rw no' h
      ]

  swapped : (y z : X) (zs : List X) → IsPermutation (y ∷ z ∷ zs) (z ∷ y ∷ zs)
  swapped y z zs = IsPermutation-swap (y ∷ z ∷ zs) (z ∷ y ∷ zs) 0 1 (omega arith) (omega arith) refl

  filter_swapped : (y z : X) (zs : List X) → IsPermutation (filter p (y ∷ z ∷ zs)) (filter p (z ∷ y ∷ zs))
  filter_swapped y z zs =
      elim (cases_Bool (p y)) [
        | inl first ↦ elim (cases_Bool (p z)) [
          | inl second ↦ rw (first, second) (swapped y z (filter p zs))
          | inr off ↦ rw (first, off) (IsPermutation-refl (y ∷ filter p zs))
        ]
        | inr out ↦ rw out (IsPermutation-refl (filter p (z ∷ zs)))
      ]

  filter_put : (y : X) (ys : List X) → IsPermutation (filter p (y ∷ ys)) (filter p (placed R y ys))
  filter_put y [] = IsPermutation-refl (filter p (y ∷ []))
  filter_put y (z ∷ zs) =
      elim (cases_Bool (is_gt (R y z))) [
        | inl above ↦
            rw above
            (IsPermutation-trans (filter p (y ∷ z ∷ zs)) (filter p (z ∷ y ∷ zs)) (filter p (z ∷ placed R y zs)) (filter_swapped y z zs) (filter_behind z (y ∷ zs) (placed R y zs) (filter_put y zs)))
        | inr below ↦ rw below (IsPermutation-refl (filter p (y ∷ z ∷ zs)))
      ]

  -- what is kept of a sorted list is what is kept of the list, in another order
  pub filter_sorted : (xs : List X) → IsPermutation (filter p xs) (filter p (sorted R xs))
  filter_sorted [] = IsPermutation-refl []
  filter_sorted (x ∷ xs) =
      IsPermutation-trans (filter p (x ∷ xs)) (filter p (x ∷ sorted R xs)) (filter p (placed R x (sorted R xs))) (filter_behind x xs (sorted R xs) (filter_sorted xs)) (filter_put x (sorted R xs))

-- placed rows that compare equal are one
of_pair : ℕ × Row → Placed
of_pair q = record { part = q.0; row = q.1 }

pair_of : Placed → ℕ × Row
pair_of p = (p.part, p.row)

placed_exact : CmpEqualImpliesEq placed_cmp
unfolding of_pair pair_of
placed_exact a b h = ap of_pair (exact_pairs nat_cmp row_cmp exact_unsigned rows_exact (pair_of a) (pair_of b) h)

abbrev in_part : ℕ → Placed → Bool
in_part number p = p.part == number

slice_permutes : (number : ℕ) (found placed : List Placed) → IsSorted placed_cmp placed → IsPermutation found placed → IsPermutation (slice number found) (slice number placed)
slice_permutes number found placed is moved =
    let same : placed ≡ sorted placed_cmp found = is_sorted_by placed_cmp placed_total placed_exact found placed is moved in
    let kept : IsPermutation (filter (in_part number) found) (filter (in_part number) placed) =
    subst (λ (xs : List Placed). IsPermutation (filter (in_part number) found) (filter (in_part number) xs)) (sym same) (filter_sorted placed_cmp (in_part number) found) in
    IsPermutation-map (λ (p : Placed). p.row) (filter (in_part number) found) (filter (in_part number) placed) kept

then_equal : (o p : Ordering) → o ≡ Equal → is_lt (ordering_then o p) ≡ false → is_lt p ≡ false
then_equal o p e h = let same : is_lt (ordering_then Equal p) ≡ false = subst (λ (q : Ordering). is_lt (ordering_then q p) ≡ false) e h in same

cmp_same : (m n : ℕ) → m ≡ n → nat_cmp m n ≡ Equal
cmp_same m n e = rw e (grind (arith, nat_tests))

one_part : (number : ℕ) (a b : Placed) → in_part number a ≡ true → in_part number b ≡ true → is_lt (placed_cmp a b) ≡ false → is_lt (row_cmp a.row b.row) ≡ false
one_part number a b ha hb h =
    let first : a.part ≡ number = (Decides-eqb a.part number).0 ha in
    let second : b.part ≡ number = (Decides-eqb b.part number).0 hb in
    then_equal (nat_cmp a.part b.part) (row_cmp a.row b.row) (cmp_same a.part b.part (first ∙ sym second)) h

-- the rows of one part are sorted
slice_sorted : (number : ℕ) (placed : List Placed) → IsSorted placed_cmp placed → IsSorted row_cmp (slice number placed)
slice_sorted number placed is = λ k d lo hi.
    let kept = filter (in_part number) placed in
    let e : Placed = record { part = 0; row = d } in
    let size : length (slice number placed) ≡ length (filter (in_part number) placed) = length-map (filter (in_part number) placed) (λ (p : Placed). p.row) in
    let next : k + 1 < length (filter (in_part number) placed) = omega (arith, hi, size) in
    let up = IsSortedBy-filter (λ (x : Placed) (y : Placed). is_lt (placed_cmp x y)) (ranks_by placed_total (λ (p : Placed). p)) (in_part number) placed is k e lo next in
    let all = filter_passes (in_part number) placed in
    let rows = one_part number (get_or (filter (in_part number) placed) (k + 1) e) (get_or (filter (in_part number) placed) k e) (all (k + 1) e next) (all k e (omega (arith, next))) up in
    let first : get_or (slice number placed) (k + 1) d ≡ (get_or (filter (in_part number) placed) (k + 1) e).row = get_or-map (λ (p : Placed). p.row) (filter (in_part number) placed) (k + 1) e d next in
    let second : get_or (slice number placed) k d ≡ (get_or (filter (in_part number) placed) k e).row = get_or-map (λ (p : Placed). p.row) (filter (in_part number) placed) k e d (omega (arith, next)) in
    subst (λ (x : Row). is_lt (row_cmp x (get_or (slice number placed) k d)) ≡ false) (sym first)
    (subst (λ (y : Row). is_lt (row_cmp (get_or (filter (in_part number) placed) (k + 1) e).row y) ≡ false) (sym second) rows)

-- sorted rows have in each part the sorted rows of the part
pub slice_is : (number : ℕ) (found placed : List Placed) → IsSorted placed_cmp placed → IsPermutation found placed → slice number placed ≡ sorted_rows (slice number found)
slice_is number found placed is moved = only_sorted (slice number found) (slice number placed) (slice_sorted number placed is) (slice_permutes number found placed is moved)
