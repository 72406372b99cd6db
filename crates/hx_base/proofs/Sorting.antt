-- The sorted list: it ascends, has each element as often, and is the only one that does.
use Rattle.std.proofs.Common.{◌≡◌, ◌∙◌, ◌+◌, ◌∷◌, [], ℕ, zero, suc, List, true, false, refl, sym, ap, arith, inl, inr, if◌then◌else◌, slice_index_or, subst}
use Rattle.std.specs.Ordering.{is_gt, is_lt, is_eq, ordering_reverse}
use Rattle.std.specs.List.{sum_by}
use Rattle.std.specs.List.Sorted.{IsSorted, IsPermutation}
use Rattle.std.specs.Cmp.{IsTotalOrder}
use Rattle.std.specs.declared.cmp.Ordering.{Ordering}
use Rattle.std.specs.declared.cmp.Ordering.TheVariants.{Less, Equal, Greater}
use Rattle.std.proofs.lemmas.Bool.{cases_Bool}
use Rattle.std.proofs.lemmas.Cmp.{tied_itself, upto, alike_right}
use Rattle.std.proofs.lemmas.List.Sorted.{sum_by-IsPermutation, IsPermutation-cons, IsPermutation-refl, IsPermutation-swap, IsPermutation-sym, IsPermutation-trans}
use Rattle.std.proofs.lemmas.List.Sums.{sum_by-cons}
use Rattle.std.proofs.lemmas.Map.Lookups.{CmpEqualImpliesEq}
use Rattle.hx_base.specs.Sorted.{placed, sorted}

module _ {K : Type 0} (R : K → K → Ordering) (order : IsTotalOrder R) (exact : CmpEqualImpliesEq R) where
  -- 1 for the elements that compare as x
  same_as : K → K → ℕ
  same_as x y = if is_eq (R x y) then 1 else 0

  -- x is not above an element of the list
  abbrev Below : K → List K → Type 0
  Below x [] = Unit {0}
  Below x (y ∷ ys) = (is_gt (R x y) ≡ false) × Below x ys

  -- in order, by recursion
  abbrev Ascends : List K → Type 0
  Ascends [] = Unit {0}
  Ascends (x ∷ xs) = Below x xs × Ascends xs

  below_trans : (x y : K) (zs : List K) → is_gt (R x y) ≡ false → Below y zs → Below x zs
  below_trans x y [] h b = tt
  below_trans x y (z ∷ zs) h b = (upto order x y z h b.0, below_trans x y zs h b.1)

  gt_turned : (o : Ordering) → is_lt o ≡ false → is_gt (ordering_reverse o) ≡ false
  gt_turned Less h = cc h
  gt_turned Equal h = refl
  gt_turned Greater h = refl

  not_gt : (x y : K) → is_lt (R y x) ≡ false → is_gt (R x y) ≡ false
  not_gt x y h = rw (order.antisymm x y) (gt_turned (R y x) h)

  -- neighbours in order
  ascends_from : (xs : List K) → IsSorted R xs → Ascends xs
  ascends_from [] s = tt
  ascends_from (x ∷ []) s = (tt, tt)
  ascends_from (x ∷ y ∷ ys) s =
      let shift : (k : ℕ) → suc k + 1 ≡ suc (k + 1) = λ k. omega arith in
      let rest = ascends_from (y ∷ ys) (λ k d lo hi. subst (λ (j : ℕ). is_lt (R (slice_index_or (x ∷ y ∷ ys) j d) (slice_index_or (y ∷ ys) k d)) ≡ false) (shift k) (s (suc k) d (omega arith) (omega arith))) in
      let first = not_gt x y (s 0 x (omega arith) (omega arith)) in
      ((first, below_trans x y ys first rest.0), rest)

  -- what is less than the first is less than each
  less_than : (x y z : K) (o : Ordering) → R y z ≡ o → R x y ≡ Less → is_gt o ≡ false → R x z ≡ Less
  less_than x y z Less e h g = order.trans x y z h e
  less_than x y z Equal e h g = sym (alike_right order y z x e) ∙ h
  less_than x y z Greater e h g = cc g

  elsewhere : (x y : K) → R x y ≡ Less → same_as x y ≡ 0
  unfolding same_as
  elsewhere x y h = rw h refl

  absent : (x y : K) (ys : List K) → R x y ≡ Less → Below y ys → sum_by (same_as x) ys ≡ 0
  unfolding same_as
  absent x y [] h b = refl
  absent x y (z ∷ zs) h b = sum_by-cons (same_as x) z zs ∙ (let e = elsewhere x z (less_than x y z (R y z) refl h b.0) in let r = absent x y zs h b.1 in omega (arith, e, r))

  here : (x : K) → same_as x x ≡ 1
  unfolding same_as
  here x = rw (tied_itself order x) refl

  back : (o : Ordering) (x y : K) → R x y ≡ Greater → R y x ≡ Less
  back o x y h = order.antisymm y x ∙ rw h refl

  by_heads : (x y : K) (xs ys : List K) → Ascends (x ∷ xs) → Ascends (y ∷ ys) → ((z : K) → sum_by (same_as z) (x ∷ xs) ≡ sum_by (same_as z) (y ∷ ys))
      → (((z : K) → sum_by (same_as z) xs ≡ sum_by (same_as z) ys) → xs ≡ ys) → (o : Ordering) → R x y ≡ o → x ∷ xs ≡ y ∷ ys
  by_heads x y xs ys a b e rest Less h = absurd (omega (arith, e x, here x, elsewhere x y h, absent x y ys h b.0, sum_by-cons (same_as x) x xs, sum_by-cons (same_as x) y ys))
  by_heads x y xs ys a b e rest Greater h = absurd (omega (arith, e y, here y, elsewhere y x (back Greater x y h), absent y x xs (back Greater x y h) a.0, sum_by-cons (same_as y) x xs, sum_by-cons (same_as y) y ys))
  by_heads x y xs ys a b e rest Equal h =
      let one = exact x y h in
      let same = rest (λ z. let t = e z in let u = ap (same_as z) one in omega (arith, t, u, sum_by-cons (same_as z) x xs, sum_by-cons (same_as z) y ys)) in
      rw (one, same) refl

  -- two lists in order with the same counts are one
  same_counts : (xs ys : List K) → Ascends xs → Ascends ys → ((x : K) → sum_by (same_as x) xs ≡ sum_by (same_as x) ys) → xs ≡ ys
  same_counts [] [] a b e = refl
  same_counts [] (y ∷ ys) a b e = absurd (omega (arith, e y, here y, sum_by-cons (same_as y) y ys))
  same_counts (x ∷ xs) [] a b e = absurd (omega (arith, e x, here x, sum_by-cons (same_as x) x xs))
  same_counts (x ∷ xs) (y ∷ ys) a b e = by_heads x y xs ys a b e (λ t. same_counts xs ys a.1 b.1 t) (R x y) refl

  -- the list that is sorted by insertion
  below_put : (x y : K) (ys : List K) → is_gt (R x y) ≡ false → Below x ys → Below x (placed R y ys)
  below_put x y [] h b = (h, tt)
  below_put x y (z ∷ zs) h b =
      elim (cases_Bool (is_gt (R y z))) [
        | inl g ↦ rw g (b.0, below_put x y zs h b.1)
        | inr g ↦ rw g (h, b)
      ]

  gt_back : (o : Ordering) → is_gt o ≡ true → is_gt (ordering_reverse o) ≡ false
  gt_back Less h = cc h
  gt_back Equal h = refl
  gt_back Greater h = refl

  ascends_put : (y : K) (ys : List K) → Ascends ys → Ascends (placed R y ys)
  ascends_put y [] a = (tt, tt)
  ascends_put y (z ∷ zs) a =
      elim (cases_Bool (is_gt (R y z))) [
        | inl g ↦ rw g (below_put z y zs (rw (order.antisymm z y) (gt_back (R y z) g)) a.0, ascends_put y zs a.1)
        | inr g ↦ rw g ((g, below_trans y z zs g a.0), a)
      ]

  ascends_sorted : (xs : List K) → Ascends (sorted R xs)
  ascends_sorted [] = tt
  ascends_sorted (x ∷ xs) = ascends_put x (sorted R xs) (ascends_sorted xs)

  sum_put : (f : K → ℕ) (y : K) (ys : List K) → sum_by f (placed R y ys) ≡ f y + sum_by f ys
  sum_put f y [] = omega (arith, sum_by-cons f y [])
  sum_put f y (z ∷ zs) =
      elim (cases_Bool (is_gt (R y z))) [
        | inl g ↦ rw g (omega (arith, sum_put f y zs, sum_by-cons f z (placed R y zs), sum_by-cons f z zs))
        | inr g ↦ rw g (sum_by-cons f y (z ∷ zs))
      ]

  sum_sorted : (f : K → ℕ) (xs : List K) → sum_by f (sorted R xs) ≡ sum_by f xs
  sum_sorted f [] = refl
  sum_sorted f (x ∷ xs) = sum_put f x (sorted R xs) ∙ (let e = sum_sorted f xs in omega (arith, e, sum_by-cons f x xs))

  pub is_sorted_by : (xs ys : List K) → IsSorted R ys → IsPermutation xs ys → ys ≡ sorted R xs
  is_sorted_by xs ys s p = same_counts ys (sorted R xs) (ascends_from ys s) (ascends_sorted xs) (λ x. sum_by-IsPermutation (same_as x) xs ys p ∙ sym (sum_sorted (same_as x) xs))

  -- an ascending list is one by the library's word
  lt_turned : (o : Ordering) → is_gt o ≡ false → is_lt (ordering_reverse o) ≡ false
  lt_turned Less h = refl
  lt_turned Equal h = refl
  lt_turned Greater h = cc h

  first_below : (x y : K) (ys : List K) → Below x (y ∷ ys) → is_lt (R y x) ≡ false
  first_below x y ys h = rw (order.antisymm y x) (lt_turned (R x y) h.0)

  from_second : (x y : K) (ys : List K) → is_lt (R y x) ≡ false → IsSorted R (y ∷ ys) → IsSorted R (x ∷ y ∷ ys)
  from_second x y ys first rest zero d lo hi = first
  from_second x y ys first rest (suc k) d lo hi =
      let shift : suc k + 1 ≡ suc (k + 1) = omega arith in
      subst (λ (j : ℕ). is_lt (R (slice_index_or (x ∷ y ∷ ys) j d) (slice_index_or (y ∷ ys) k d)) ≡ false) (sym shift) (rest k d (omega arith) (omega (arith, hi)))

  sorted_from : (xs : List K) → Ascends xs → IsSorted R xs
  sorted_from [] a = λ k d lo hi. absurd (omega (arith, hi))
  sorted_from (x ∷ []) a = λ k d lo hi. absurd (omega (arith, hi))
  sorted_from (x ∷ y ∷ ys) a = from_second x y ys (first_below x y ys a.0) (sorted_from (y ∷ ys) a.1)

  pub is_sorted : (xs : List K) → IsSorted R (sorted R xs)
  is_sorted xs = sorted_from (sorted R xs) (ascends_sorted xs)

  -- each element as often
  permutes_placed : (y : K) (ys : List K) → IsPermutation (y ∷ ys) (placed R y ys)
  permutes_placed y [] = IsPermutation-refl (y ∷ [])
  permutes_placed y (z ∷ zs) =
      elim (cases_Bool (is_gt (R y z))) [
        | inl g ↦ rw g (IsPermutation-trans (y ∷ z ∷ zs) (z ∷ y ∷ zs) (z ∷ placed R y zs) (IsPermutation-swap (y ∷ z ∷ zs) (z ∷ y ∷ zs) 0 1 (omega arith) (omega arith) refl) (IsPermutation-cons z (y ∷ zs) (placed R y zs) (permutes_placed y zs)))
        | inr g ↦ rw g (IsPermutation-refl (y ∷ z ∷ zs))
      ]

  pub permutes : (xs : List K) → IsPermutation xs (sorted R xs)
  permutes [] = IsPermutation-refl []
  permutes (x ∷ xs) = IsPermutation-trans (x ∷ xs) (x ∷ sorted R xs) (placed R x (sorted R xs)) (IsPermutation-cons x xs (sorted R xs) (permutes xs)) (permutes_placed x (sorted R xs))

  pub same_sorted : (xs ys : List K) → IsPermutation xs ys → sorted R xs ≡ sorted R ys
  same_sorted xs ys p = is_sorted_by ys (sorted R xs) (is_sorted xs) (IsPermutation-trans ys xs (sorted R xs) (IsPermutation-sym xs ys p) (permutes xs))
