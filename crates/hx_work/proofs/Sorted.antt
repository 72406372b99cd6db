-- Rows in order, and what pixels have of them.
use Rattle.std.proofs.Common.{◌≡◌, ◌==◌, ◌<◌, ◌∷◌, ◌^◌, [], List, Bool, filter, length, refl, sym, arith, inl, inr}
use Rattle.std.specs.List.{All}
use Rattle.std.specs.Ordering.{is_gt, is_lt}
use Rattle.std.specs.declared.cmp.Ordering.{Ordering}
use Rattle.std.specs.List.Sorted.{IsPermutation, IsSorted}
use Rattle.std.proofs.lemmas.Bool.{cases_Bool}
use Rattle.std.proofs.lemmas.List.Kept.{IsSortedBy-filter}
use Rattle.std.proofs.lemmas.List.Sorted.{All-permutation, IsPermutation-cons, IsPermutation-refl, IsPermutation-swap, IsPermutation-trans, length_permutation, ranks_by}
use Rattle.hx_base.specs.Contents.{partition_rows}
use Rattle.hx_base.specs.Pixels.{count_in, pixel_of, rows_in}
use Rattle.hx_base.specs.Rows.{IsGood, row_cmp, sorted_rows}
use Rattle.hx_base.specs.Sorted.{placed, sorted}
use Rattle.hx_base.specs.declared.pixel.Pixel.{Pixel}
use Rattle.hx_base.specs.declared.row.Row.{Row}
use Rattle.hx_base.proofs.RowOrder.{only_sorted, rows_exact, rows_total}
use Rattle.hx_base.proofs.Sorting.{is_sorted, permutes, same_sorted}

pub rows_sorted : (rows : List Row) → IsSorted row_cmp (sorted_rows rows)
rows_sorted rows = is_sorted row_cmp rows_total rows_exact rows

pub good_sorted : (rows : List Row) → All IsGood rows → All IsGood (sorted_rows rows)
good_sorted rows good = All-permutation IsGood rows (sorted_rows rows) (permutes row_cmp rows_total rows_exact rows) good

pub positions_fit : (rows : List Row) → All IsGood rows → All (λ (row : Row). row.hp < 2 ^ 63) rows
positions_fit rows good = λ k d lt. omega (arith, (good k d lt).pixel)

pub length_sorted : (rows : List Row) → length (sorted_rows rows) ≡ length rows
length_sorted rows = length_permutation rows (sorted_rows rows) (permutes row_cmp rows_total rows_exact rows)

module _ {X : Type 0} (R : X → X → Ordering) (p : X → Bool) where
  filter_behind : (z : X) (xs ys : List X) → IsPermutation (filter p xs) (filter p ys) → IsPermutation (filter p (z ∷ xs)) (filter p (z ∷ ys))
  filter_behind z xs ys h =
      elim (cases_Bool (p z)) [
        | inl is ↦ rw is (IsPermutation-cons z (filter p xs) (filter p ys) h)
        | inr not ↦ rw not h
      ]

  filter_swapped : (y z : X) (zs : List X) → IsPermutation (filter p (y ∷ z ∷ zs)) (filter p (z ∷ y ∷ zs))
  filter_swapped y z zs =
      elim (cases_Bool (p y)) [
        | inl first ↦ elim (cases_Bool (p z)) [
          | inl second ↦ rw (first, second) (IsPermutation-swap (y ∷ z ∷ filter p zs) (z ∷ y ∷ filter p zs) 0 1 (omega arith) (omega arith) refl)
          | inr off ↦ rw (first, off) (IsPermutation-refl (y ∷ filter p zs))
        ]
        | inr out ↦ rw out (IsPermutation-refl (filter p (z ∷ zs)))
      ]

  filter_put : (y : X) (ys : List X) → IsPermutation (filter p (y ∷ ys)) (filter p (placed R y ys))
  filter_put y [] = IsPermutation-refl (filter p (y ∷ []))
  filter_put y (z ∷ zs) =
      elim (cases_Bool (is_gt (R y z))) [
        | inl above ↦
            rw above
            (IsPermutation-trans (filter p (y ∷ z ∷ zs)) (filter p (z ∷ y ∷ zs)) (filter p (z ∷ placed R y zs)) (filter_swapped y z zs) (filter_behind z (y ∷ zs) (placed R y zs) (filter_put y zs)))
        | inr below ↦ rw below (IsPermutation-refl (filter p (y ∷ z ∷ zs)))
      ]

  -- what is kept of a sorted list is what is kept of the list, in another order
  filter_sorted : (xs : List X) → IsPermutation (filter p xs) (filter p (sorted R xs))
  filter_sorted [] = IsPermutation-refl []
  filter_sorted (x ∷ xs) =
      IsPermutation-trans (filter p (x ∷ xs)) (filter p (x ∷ sorted R xs)) (filter p (placed R x (sorted R xs))) (filter_behind x xs (sorted R xs) (filter_sorted xs)) (filter_put x (sorted R xs))

abbrev test : Pixel → Row → Bool
test pixel row = pixel_of pixel.order row.hp == pixel.number

-- a pixel has of sorted rows the same rows
pub rows_in_sorted : (pixel : Pixel) (rows : List Row) → IsPermutation (rows_in pixel rows) (rows_in pixel (sorted_rows rows))
rows_in_sorted pixel rows = filter_sorted row_cmp (test pixel) rows

pub count_in_sorted : (pixel : Pixel) (rows : List Row) → count_in pixel (sorted_rows rows) ≡ count_in pixel rows
count_in_sorted pixel rows = length_permutation (rows_in pixel rows) (rows_in pixel (sorted_rows rows)) (rows_in_sorted pixel rows)

pub partition_of_sorted : (pixel : Pixel) (rows : List Row) → partition_rows pixel (sorted_rows rows) ≡ partition_rows pixel rows
partition_of_sorted pixel rows = sym (same_sorted row_cmp rows_total rows_exact (rows_in pixel rows) (rows_in pixel (sorted_rows rows)) (rows_in_sorted pixel rows))

-- of rows in order, those in a pixel are in order
pub in_order_there : (pixel : Pixel) (rows : List Row) → IsSorted row_cmp rows → rows_in pixel rows ≡ partition_rows pixel rows
in_order_there pixel rows ordered =
    only_sorted (rows_in pixel rows) (rows_in pixel rows)
    (IsSortedBy-filter (λ (x : Row) (y : Row). is_lt (row_cmp x y)) (ranks_by rows_total (λ (r : Row). r)) (test pixel) rows ordered) (IsPermutation-refl (rows_in pixel rows))
