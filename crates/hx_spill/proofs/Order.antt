-- Lists in order, and rows by part.
use Rattle.std.proofs.Common.{◌≡◌, ◌+◌, ◌<◌, ◌≤◌, ℕ, zero, suc, List, true, false, length, refl, sym, arith, inl, inr, get_or, subst}
use Rattle.std.specs.List.{AllPairs}
use Rattle.std.specs.List.Sorted.{IsSorted}
use Rattle.std.specs.Cmp.{IsTotalOrder}
use Rattle.std.specs.Ordering.{is_gt, is_lt, is_le, nat_cmp, ordering_reverse, ordering_then}
use Rattle.std.specs.declared.cmp.Ordering.{Ordering}
use Rattle.std.specs.declared.cmp.Ordering.TheVariants.{Less, Equal, Greater}
use Rattle.std.proofs.lemmas.Bool.{cases_eq}
use Rattle.std.proofs.lemmas.Bool.Decides.{nat_tests}
use Rattle.std.proofs.lemmas.Cmp.{nat_cmp_total, on_total, then_total, upto}
use Rattle.std.proofs.lemmas.Map.Keys.{le_from_not_gt}
use Rattle.hx_base.proofs.RowOrder.{rows_total}
use Rattle.hx_base.specs.Rows.{row_cmp}
use Rattle.hx_spill.specs.Splits.{placed_cmp}
use Rattle.hx_spill.specs.declared.split.Placed.{Placed}

turned : (o : Ordering) → is_lt o ≡ false → is_gt (ordering_reverse o) ≡ false
turned Less h = cc h
turned Equal h = refl
turned Greater h = refl

module _ {K : Type 0} (R : K → K → Ordering) (order : IsTotalOrder R) where
  not_gt : (x y : K) → is_lt (R y x) ≡ false → is_gt (R x y) ≡ false
  not_gt x y h = rw (order.antisymm x y) (turned (R y x) h)

  behind : (xs : List K) → IsSorted R xs → (j i : ℕ) (d : K) → i < j → j < length xs → is_gt (R (get_or xs i d) (get_or xs j d)) ≡ false
  behind xs sorted zero i d lt within = absurd (omega arith)
  behind xs sorted (suc j) i d lt within =
      let next : suc j ≡ j + 1 = omega arith in
      let step : is_gt (R (get_or xs j d) (get_or xs (suc j) d)) ≡ false =
      not_gt (get_or xs j d) (get_or xs (suc j) d) (subst (λ (k : ℕ). is_lt (R (get_or xs k d) (get_or xs j d)) ≡ false) (sym next) (sorted j d (omega arith) (omega (arith, within)))) in
      elim (cases_eq i j) [
        | inl same ↦ rw same step
        | inr other ↦ upto order (get_or xs i d) (get_or xs j d) (get_or xs (suc j) d) (behind xs sorted j i d (omega arith) (omega (arith, within))) step
      ]

  -- none is above a later one
  pub in_order : (xs : List K) → IsSorted R xs → AllPairs (λ a b. is_gt (R a b) ≡ false) xs
  in_order xs sorted i j d lt within = behind xs sorted j i d lt within

pub placed_total : IsTotalOrder placed_cmp
placed_total = then_total (on_total (λ (p : Placed). p.part) nat_cmp_total) (on_total (λ (p : Placed). p.row) rows_total)

first_not_gt : (o p : Ordering) → is_gt (ordering_then o p) ≡ false → is_gt o ≡ false
first_not_gt Less p h = refl
first_not_gt Equal p h = refl
first_not_gt Greater p h = h

second_not_gt : (o p : Ordering) → o ≡ Equal → is_gt (ordering_then o p) ≡ false → is_gt p ≡ false
second_not_gt Less p is h = cc is
second_not_gt Equal p is h = h
second_not_gt Greater p is h = cc is

at_most : (o : Ordering) → is_gt o ≡ false → is_le o ≡ true
at_most Less is = refl
at_most Equal is = refl
at_most Greater is = cc is

cmp_itself : (k : ℕ) → nat_cmp k k ≡ Equal
cmp_itself k = grind (arith, nat_tests)

-- parts don't fall, and rows don't within one
pub part_le : (a b : Placed) → is_gt (placed_cmp a b) ≡ false → a.part ≤ b.part
part_le a b h = le_from_not_gt a.part b.part (first_not_gt (nat_cmp a.part b.part) (row_cmp a.row b.row) h)

pub row_le : (a b : Placed) → a.part ≡ b.part → is_gt (placed_cmp a b) ≡ false → is_le (row_cmp a.row b.row) ≡ true
row_le a b same h = at_most (row_cmp a.row b.row) (second_not_gt (nat_cmp a.part b.part) (row_cmp a.row b.row) (equal a.part b.part same) h)
  where
    equal : (m n : ℕ) → m ≡ n → nat_cmp m n ≡ Equal
    equal m n is = rw is (cmp_itself n)
