-- Rows in order that are placed by their partitions are a split.
use Rattle.std.proofs.Common.{◌≡◌, ◌∙◌, ◌==◌, ◌+◌, ◌<◌, ◌≤◌, ◌∷◌, ◌++◌, [], ℕ, zero, suc, List, false, Option, Some, None, filter, length, map, get_or, refl, sym, ap, subst, arith, inl, inr, slice_index_or, take}
use Rattle.std.specs.List.{All, AllByRecursion, AllPairs, slice_get}
use Rattle.std.specs.List.Sorted.{IsSorted}
use Rattle.std.specs.Ordering.{is_gt, is_lt, nat_cmp, ordering_reverse, ordering_then}
use Rattle.std.specs.declared.cmp.Ordering.{Ordering}
use Rattle.std.specs.declared.cmp.Ordering.TheVariants.{Less, Equal, Greater}
use Rattle.std.proofs.lemmas.Bool.{cases_eq, cases_order, eq-eqb, ne_eqb}
use Rattle.std.proofs.lemmas.Bool.Decides.{nat_tests}
use Rattle.std.proofs.lemmas.List.{append-nil, append_assoc, map-append, take_more}
use Rattle.std.proofs.lemmas.List.Elements.{All-from_recursion, filter-append, recursion_from_All}
use Rattle.std.proofs.lemmas.Map.Keys.{le_from_not_gt}
use Rattle.std.proofs.lemmas.Option.{get_or_from_slice_get, slice_get_within}
use Rattle.hx_base.specs.Pixels.{AreDisjointInOrder, HoldsPosition, end_position, first_position, pixel_of, rows_in}
use Rattle.hx_base.specs.Rows.{IsGood, row_cmp, sorted_rows}
use Rattle.hx_base.specs.declared.pixel.Pixel.{Pixel}
use Rattle.hx_base.specs.declared.row.Row.{Row}
use Rattle.hx_base.proofs.Ranges.{ascend, holds_range}
use Rattle.hx_base.proofs.RowOrder.{rows_total}
use Rattle.hx_ptree.specs.Searches.{IsHolder}
use Rattle.hx_spill.specs.Splits.{placed_at, placed_cmp, slice}
use Rattle.hx_spill.specs.Values.{AreSplit}
use Rattle.hx_spill.specs.declared.split.Placed.{Placed}
use Rattle.hx_spill.proofs.Counted.{rows_in-append}
use Rattle.hx_spill.proofs.Order.{in_order}
use Rattle.hx_work.specs.Places.{Places, placed_by}
use Rattle.hx_work.proofs.Sorted.{in_order_there, partition_of_sorted}

-- one row more
pub places_more : (parts : List Pixel) (rows : List Row) (placed : List Placed) (row : Row) (found : Option ℕ) → Places parts rows placed → IsHolder parts row.hp found → Places parts (rows ++ row ∷ []) (placed ++ placed_by found row)
places_more parts [] placed row found none holder = (found, [], holder, ap (λ (ps : List Placed). ps ++ placed_by found row) none ∙ sym (append-nil (placed_by found row)), refl)
places_more parts (r ∷ rows) placed row found h holder = (
  h.0,
  h.1 ++ placed_by found row,
  h.2,
  ap (λ (ps : List Placed). ps ++ placed_by found row) h.3 ∙ append_assoc (placed_by h.0 r) h.1 (placed_by found row),
  places_more parts rows h.1 row found h.4 holder,
)

-- the next row of a list
pub places_next : (parts : List Pixel) (rows : List Row) (i : ℕ) (d : Row) (placed new : List Placed) (found : Option ℕ) → i < length rows → Places parts (take i rows) placed → IsHolder parts (get_or rows i d).hp found
    → new ≡ placed ++ placed_by found (get_or rows i d) → Places parts (take (i + 1) rows) new
places_next parts rows i d placed new found lt places holder is =
    subst (λ (ps : List Placed). Places parts (take (i + 1) rows) ps) (sym is)
    (subst (λ (rs : List Row). Places parts rs (placed ++ placed_by found (get_or rows i d))) (sym (take_more rows i d lt)) (places_more parts (take i rows) placed (get_or rows i d) found places holder))

slice-append : (part : ℕ) (xs ys : List Placed) → slice part (xs ++ ys) ≡ slice part xs ++ slice part ys
slice-append part xs ys =
    ap (λ (ps : List Placed). map (λ p. p.row) ps) (filter-append (λ p. p.part == part) xs ys) ∙ map-append (λ (p : Placed). p.row) (filter (λ p. p.part == part) xs) (filter (λ p. p.part == part) ys)

module _ (parts : List Pixel) (disjoint : AreDisjointInOrder parts) where
  same_part : (i j : ℕ) (a b : Pixel) → slice_get parts i ≡ Some a → slice_get parts j ≡ Some b → i ≡ j → a ≡ b
  same_part i j a b at other is = cc (sym at ∙ ap (slice_get parts) is ∙ other)

  apart : (i j : ℕ) (a b : Pixel) (position : ℕ) → slice_get parts i ≡ Some a → slice_get parts j ≡ Some b → HoldsPosition a position → HoldsPosition b position → i < j → ⊥
  apart i j a b position at other first second less =
      let pair = disjoint.disjoint i j a less (slice_get_within parts j b other) in
      pair position (rw (get_or_from_slice_get parts i a a at) first) (rw (get_or_from_slice_get parts j b a other) second)

  -- one row is placed where its partition is
  one_row : (part : ℕ) (pixel : Pixel) (row : Row) (found : Option ℕ) → slice_get parts part ≡ Some pixel → IsHolder parts row.hp found → slice part (placed_by found row) ≡ rows_in pixel (row ∷ [])
  one_row part pixel row None at none =
      let out : HoldsPosition pixel row.hp → ⊥ = λ holds.
      none part pixel (slice_get_within parts part pixel at) (rw (get_or_from_slice_get parts part pixel pixel at) holds) in
      rw (ne_eqb (pixel_of pixel.order row.hp) pixel.number out) refl
  one_row part pixel row (Some k) at (held, there, holds) =
      elim (cases_order k part) [
        | inl same ↦
            let is = same_part k part held pixel there at same in
            let inside : pixel_of pixel.order row.hp ≡ pixel.number = subst (λ (p : Pixel). HoldsPosition p row.hp) is holds in
            rw (eq-eqb k part same, eq-eqb (pixel_of pixel.order row.hp) pixel.number inside) refl
        | inr (inl less) ↦
            rw (ne_eqb k part (λ e. omega (arith, e, less)), ne_eqb (pixel_of pixel.order row.hp) pixel.number (λ h. apart k part held pixel row.hp there at holds h less)) refl
        | inr (inr more) ↦
            rw (ne_eqb k part (λ e. omega (arith, e, more)), ne_eqb (pixel_of pixel.order row.hp) pixel.number (λ h. apart part k pixel held row.hp at there h holds more)) refl
      ]

  slices : (part : ℕ) (pixel : Pixel) (rows : List Row) (placed : List Placed) → slice_get parts part ≡ Some pixel → Places parts rows placed → slice part placed ≡ rows_in pixel rows
  slices part pixel [] placed at none = ap (slice part) none
  slices part pixel (row ∷ rows) placed at (found, rest, holder, is, more) =
      ap (slice part) is ∙ slice-append part (placed_by found row) rest ∙ ap (λ (rs : List Row). rs ++ slice part rest) (one_row part pixel row found at holder)
      ∙ ap (λ (rs : List Row). rows_in pixel (row ∷ []) ++ rs) (slices part pixel rows rest at more) ∙ sym (rows_in-append pixel (row ∷ []) rows)

  -- each placed row is one of the rows, and its partition holds it
  abbrev IsFrom : (Row → Type 0) → Placed → Type 0
  IsFrom P p = P p.row × IsHolder parts p.row.hp (Some p.part)

  put_front : (P : Row → Type 0) (found : Option ℕ) (row : Row) (rest : List Placed) → P row → IsHolder parts row.hp found → AllByRecursion (IsFrom P) rest → AllByRecursion (IsFrom P) (placed_by found row ++ rest)
  put_front P None row rest here holder more = more
  put_front P (Some part) row rest here holder more = ((here, holder), more)

  from_rows : (P : Row → Type 0) (rows : List Row) (placed : List Placed) → AllByRecursion P rows → Places parts rows placed → AllByRecursion (IsFrom P) placed
  from_rows P [] placed all none = subst (AllByRecursion (IsFrom P)) (sym none) tt
  from_rows P (row ∷ rows) placed all (found, rest, holder, is, more) = subst (AllByRecursion (IsFrom P)) (sym is) (put_front P found row rest all.0 holder (from_rows P rows rest all.1 more))

  first_not_gt : (o p : Ordering) → is_gt (ordering_then o p) ≡ false → is_gt o ≡ false
  first_not_gt Less p h = refl
  first_not_gt Equal p h = refl
  first_not_gt Greater p h = h

  turned : (o : Ordering) → is_gt o ≡ false → is_lt (ordering_reverse o) ≡ false
  turned Less h = refl
  turned Equal h = refl
  turned Greater h = cc h

  not_less : (m n : ℕ) (o : Ordering) → n < m → is_lt (ordering_then (nat_cmp m n) o) ≡ false
  not_less m n o more = let above : nat_cmp m n ≡ Greater = grind (arith, nat_tests) in rw above refl

  tied : (m n : ℕ) (o : Ordering) → m ≡ n → is_lt o ≡ false → is_lt (ordering_then (nat_cmp m n) o) ≡ false
  tied m n o same h = let equal : nat_cmp m n ≡ Equal = grind (arith, nat_tests) in rw equal h

  -- a row that isn't above another goes to a partition that isn't behind the other's
  parts_rise : (k l : ℕ) (a b : Row) → IsHolder parts a.hp (Some k) → IsHolder parts b.hp (Some l) → is_gt (row_cmp a b) ≡ false → k ≤ l
  parts_rise k l a b (first, at, holds) (second, other, also) order =
      let le = le_from_not_gt a.hp b.hp (first_not_gt (nat_cmp a.hp b.hp) _ order) in
      elim (cases_order k l) [
        | inl same ↦ omega (arith, same)
        | inr (inl less) ↦ omega (arith, less)
        | inr (inr more) ↦
            let ends : end_position second ≤ first_position first =
            let pair = ascend parts disjoint l k second more (slice_get_within parts k first at) in
            rw (get_or_from_slice_get parts l second second other, get_or_from_slice_get parts k first second at) at pair in
            let low = ((holds_range first a.hp).0 holds).0 in
            let high = ((holds_range second b.hp).0 also).1 in
            absurd (omega (arith, le, ends, low, high))
      ]

  not_below : (k l : ℕ) (a b : Row) → IsHolder parts a.hp (Some k) → IsHolder parts b.hp (Some l) → is_gt (row_cmp a b) ≡ false → is_lt (placed_cmp (placed_at l b) (placed_at k a)) ≡ false
  not_below k l a b first second order =
      let le = parts_rise k l a b first second order in
      elim (cases_eq l k) [
        | inl same ↦ tied l k (row_cmp b a) same (rw (rows_total.antisymm b a) (turned (row_cmp a b) order))
        | inr other ↦ not_less l k (row_cmp b a) (omega (arith, le, other))
      ]

  -- in front of what it isn't above
  put_sorted : (x : Placed) (ys : List Placed) → AllByRecursion (λ y. is_lt (placed_cmp y x) ≡ false) ys → IsSorted placed_cmp ys → IsSorted placed_cmp (x ∷ ys)
  put_sorted x [] all ordered = λ k d lo hi. absurd (omega (arith, hi))
  put_sorted x (y ∷ ys) all ordered = adjacent
    where
      adjacent : IsSorted placed_cmp (x ∷ y ∷ ys)
      adjacent zero d lo hi = all.0
      adjacent (suc k) d lo hi =
          let shift : suc k + 1 ≡ suc (k + 1) = omega arith in
          subst (λ (j : ℕ). is_lt (placed_cmp (slice_index_or (x ∷ y ∷ ys) j d) (slice_index_or (y ∷ ys) k d)) ≡ false) (sym shift) (ordered k d (omega arith) (omega (arith, hi)))

  behind : (k : ℕ) (a : Row) (ps : List Placed) → IsHolder parts a.hp (Some k) → AllByRecursion (IsFrom (λ r. is_gt (row_cmp a r) ≡ false)) ps → AllByRecursion (λ y. is_lt (placed_cmp y (placed_at k a)) ≡ false) ps
  behind k a [] holder all = tt
  behind k a (p ∷ ps) holder all = (not_below k p.part a p.row holder all.0.1 all.0.0, behind k a ps holder all.1)

  put_one : (found : Option ℕ) (row : Row) (rest : List Placed) → IsHolder parts row.hp found → AllByRecursion (IsFrom (λ r. is_gt (row_cmp row r) ≡ false)) rest → IsSorted placed_cmp rest → IsSorted placed_cmp (placed_by found row ++ rest)
  put_one None row rest holder all ordered = ordered
  put_one (Some part) row rest holder all ordered = put_sorted (placed_at part row) rest (behind part row rest holder all) ordered

  ordered_places : (rows : List Row) (placed : List Placed) → AllPairs (λ a b. is_gt (row_cmp a b) ≡ false) rows → Places parts rows placed → IsSorted placed_cmp placed
  ordered_places [] placed pairs none = subst (IsSorted placed_cmp) (sym none) (λ k d lo hi. absurd (omega (arith, hi)))
  ordered_places (row ∷ rows) placed pairs (found, rest, holder, is, more) =
      let later : AllByRecursion (λ r. is_gt (row_cmp row r) ≡ false) rows = recursion_from_All (λ (r : Row). is_gt (row_cmp row r) ≡ false) rows (λ k d lt. pairs 0 (suc k) d (omega arith) (omega (arith, lt))) in
      let ordered = ordered_places rows rest (λ i j d lt within. pairs (suc i) (suc j) d (omega (arith, lt)) (omega (arith, within))) more in
      subst (IsSorted placed_cmp) (sym is) (put_one found row rest holder (from_rows (λ r. is_gt (row_cmp row r) ≡ false) rows rest later more) ordered)

  numbered : (ps : List Placed) (P : Row → Type 0) → AllByRecursion (IsFrom P) ps → AllByRecursion (λ p. p.part < length parts) ps
  numbered [] P all = tt
  numbered (p ∷ ps) P all = (slice_get_within parts p.part all.0.1.0 all.0.1.1, numbered ps P all.1)

  rows_keep : (ps : List Placed) (P : Row → Type 0) → AllByRecursion (IsFrom P) ps → AllByRecursion (λ p. P p.row) ps
  rows_keep [] P all = tt
  rows_keep (p ∷ ps) P all = (all.0.0, rows_keep ps P all.1)

  pub good_places : (rows : List Row) (placed : List Placed) → All IsGood rows → Places parts rows placed → All (λ p. IsGood p.row) placed
  good_places rows placed good places = All-from_recursion (λ (p : Placed). IsGood p.row) placed (rows_keep placed IsGood (from_rows IsGood rows placed (recursion_from_All IsGood rows good) places))

  pub split_of_places : (rows : List Row) (placed : List Placed) → IsSorted row_cmp rows → All IsGood rows → Places parts rows placed → AreSplit parts rows placed
  split_of_places rows placed ordered good places = record {
    in_order = ordered_places rows placed (in_order row_cmp rows_total rows ordered) places;
    each = λ part pixel at. slices part pixel rows placed at places ∙ in_order_there pixel rows ordered;
    no_other = All-from_recursion (λ (p : Placed). p.part < length parts) placed (numbered placed IsGood (from_rows IsGood rows placed (recursion_from_All IsGood rows good) places));
  }

-- a split of the sorted rows is one of the rows
pub split_again : (parts : List Pixel) (rows : List Row) (placed : List Placed) → AreSplit parts (sorted_rows rows) placed → AreSplit parts rows placed
split_again parts rows placed is = record {
  in_order = is.in_order;
  each = λ part pixel at. is.each part pixel at ∙ partition_of_sorted pixel rows;
  no_other = is.no_other;
}
