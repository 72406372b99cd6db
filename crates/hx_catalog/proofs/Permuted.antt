-- What is kept of a list in another order, and the rows of disjoint pixels, one pixel after another.
use Rattle.std.proofs.Common.{◌≡◌, ◌==◌, ◌++◌, ◌∷◌, [], suc, Bool, true, false, List, All, AllPairs, ap, arith, filter, get_or, inl, inr, length, not, refl, subst, sym}
use Rattle.std.specs.List.Sorted.{IsPermutation}
use Rattle.std.specs.Ordering.{is_gt}
use Rattle.std.proofs.lemmas.Bool.{cases_Bool}
use Rattle.std.proofs.lemmas.Bool.Decides.{Decides-eqb}
use Rattle.std.proofs.lemmas.List.Elements.{All-filter, filter_passes}
use Rattle.std.proofs.lemmas.List.Sorted.{IsPermutation-append, IsPermutation-cons, IsPermutation-filter_both, IsPermutation-refl, IsPermutation-swap, IsPermutation-sym, IsPermutation-trans}
use Rattle.hx_base.specs.Contents.{partition_rows}
use Rattle.hx_base.specs.Partitions.{holders_of}
use Rattle.hx_base.specs.Pixels.{AreDisjoint, pixel_of, rows_in}
use Rattle.hx_base.specs.Rows.{row_cmp, sorted_rows}
use Rattle.hx_base.specs.Sorted.{placed}
use Rattle.hx_base.specs.declared.pixel.Pixel.{Pixel}
use Rattle.hx_base.specs.declared.row.Row.{Row}
use Rattle.hx_base.proofs.RowOrder.{rows_exact, rows_total}
use Rattle.hx_base.proofs.Sorting.{permutes, same_sorted}

module _ (test : Row → Bool) where
  kept-behind : (row : Row) (rows others : List Row) → IsPermutation (filter test rows) (filter test others) → IsPermutation (filter test (row ∷ rows)) (filter test (row ∷ others))
  kept-behind row rows others h =
      elim (cases_Bool (test row)) [
        | inl passes ↦ rw passes (IsPermutation-cons row (filter test rows) (filter test others) h)
        | inr fails ↦ rw fails h
      ]

  kept-swapped : (a b : Row) (rows : List Row) → IsPermutation (filter test (a ∷ b ∷ rows)) (filter test (b ∷ a ∷ rows))
  kept-swapped a b rows =
      elim (cases_Bool (test a)) [
        | inl first ↦ elim (cases_Bool (test b)) [
          | inl second ↦ rw (first, second) (IsPermutation-swap (a ∷ b ∷ filter test rows) (b ∷ a ∷ filter test rows) 0 1 (omega arith) (omega arith) refl)
          | inr off ↦ rw (first, off) (IsPermutation-refl (a ∷ filter test rows))
        ]
        | inr out ↦ rw out (IsPermutation-refl (filter test (b ∷ rows)))
      ]

  kept-placed : (row : Row) (rows : List Row) → IsPermutation (filter test (row ∷ rows)) (filter test (placed row_cmp row rows))
  kept-placed row [] = IsPermutation-refl (filter test (row ∷ []))
  kept-placed row (next ∷ rows) =
      elim (cases_Bool (is_gt (row_cmp row next))) [
        | inl above ↦
            rw above
            (IsPermutation-trans (filter test (row ∷ next ∷ rows)) (filter test (next ∷ row ∷ rows)) (filter test (next ∷ placed row_cmp row rows)) (kept-swapped row next rows)
            (kept-behind next (row ∷ rows) (placed row_cmp row rows) (kept-placed row rows)))
        | inr below ↦ rw below (IsPermutation-refl (filter test (row ∷ next ∷ rows)))
      ]

  kept-sorted : (rows : List Row) → IsPermutation (filter test rows) (filter test (sorted_rows rows))
  kept-sorted [] = IsPermutation-refl []
  kept-sorted (row ∷ rows) =
      IsPermutation-trans (filter test (row ∷ rows)) (filter test (row ∷ sorted_rows rows)) (filter test (placed row_cmp row (sorted_rows rows)))
      (kept-behind row rows (sorted_rows rows) (kept-sorted rows)) (kept-placed row (sorted_rows rows))

  -- rows in another order, and what a test keeps of them
  pub kept : (rows others : List Row) → IsPermutation rows others → IsPermutation (filter test rows) (filter test others)
  kept rows others moved =
      let same : sorted_rows rows ≡ sorted_rows others = same_sorted row_cmp rows_total rows_exact rows others moved in
      IsPermutation-trans (filter test rows) (filter test (sorted_rows rows)) (filter test others) (kept-sorted rows)
      (subst (λ (xs : List Row). IsPermutation (filter test xs) (filter test others)) (sym same) (IsPermutation-sym (filter test others) (filter test (sorted_rows others)) (kept-sorted others)))

  pub kept-is : (rows others : List Row) → IsPermutation rows others → sorted_rows (filter test rows) ≡ sorted_rows (filter test others)
  kept-is rows others moved = same_sorted row_cmp rows_total rows_exact (filter test rows) (filter test others) (kept rows others moved)

-- a test behind one that passes all that it passes
filter-filter : (f g : Row → Bool) → ((row : Row) → f row ≡ true → g row ≡ true) → (rows : List Row) → filter f (filter g rows) ≡ filter f rows
filter-filter f g weaker [] = refl
filter-filter f g weaker (row ∷ rows) =
    elim (cases_Bool (g row)) [
      | inl passes ↦ elim (cases_Bool (f row)) [
        | inl both ↦ rw (passes, both) (ap (λ (xs : List Row). row ∷ xs) (filter-filter f g weaker rows))
        | inr only ↦ rw (passes, only) (filter-filter f g weaker rows)
      ]
      | inr fails ↦ elim (cases_Bool (f row)) [
        | inl one ↦ absurd (let e = weaker row one in cc (e, fails))
        | inr none ↦ rw (fails, none) (filter-filter f g weaker rows)
      ]
    ]

-- a pixel contains a row, and it doesn't
abbrev within : Pixel → Row → Bool
within part row = pixel_of part.order row.hp == part.number

abbrev outside : Pixel → Row → Bool
outside part row = not (within part row)

negated : (b : Bool) → not b ≡ true → b ≡ false
negated true e = cc e
negated false e = refl

denied : (b : Bool) → (b ≡ true → ⊥) → not b ≡ true
denied true no' = absurd (no' refl)
denied false no' = refl

-- the rows of some pixels, one pixel after another
abbrev pub own_rows : List Pixel → List Row → List Row
own_rows [] rows = []
own_rows (part ∷ parts) rows = partition_rows part rows ++ own_rows parts rows

-- what one pixel contains is nothing to those that are disjoint from it
own-outside : (part : Pixel) (parts : List Pixel) → All (AreDisjoint part) parts → (rows : List Row) → own_rows parts (filter (outside part) rows) ≡ own_rows parts rows
own-outside part [] apart rows = refl
own-outside part (other ∷ parts) apart rows =
    let same = filter-filter (within other) (outside part)
    (λ row h. denied (within part row) (λ g. apart 0 other (omega arith) row.hp ((Decides-eqb (pixel_of part.order row.hp) part.number).0 g) ((Decides-eqb (pixel_of other.order row.hp) other.number).0 h))) rows in
    let rest = own-outside part parts (λ k d lt. apart (suc k) d (omega (arith, lt))) rows in
    λ k. sorted_rows (same k) ++ rest k

-- rows that lie in one of disjoint pixels each are those pixels' rows in another order
pub own-permutes : (parts : List Pixel) (rows : List Row) → AllPairs AreDisjoint parts → All (λ row. length (holders_of row.hp parts) ≡ 1) rows → IsPermutation rows (own_rows parts rows)
own-permutes [] [] apart once = IsPermutation-refl []
own-permutes [] (row ∷ rows) apart once = absurd (let e = once 0 row (omega arith) in omega (arith, e))
own-permutes (part ∷ parts) rows apart once =
    let rest : List Row = filter (outside part) rows in
    let split = IsPermutation-filter_both (within part) (outside part) (λ row. refl) rows in
    let first = permutes row_cmp rows_total rows_exact (rows_in part rows) in
    let others = own-permutes parts rest (λ i j d lt less. apart (suc i) (suc j) d (omega arith) (omega (arith, less)))
    (λ k d less.
    let row : Row = get_or rest k d in
    let out : within part row ≡ false = negated (within part row) (filter_passes (outside part) rows k d less) in
    let one = All-filter (outside part) (λ r. length (holders_of r.hp (part ∷ parts)) ≡ 1) rows once k d less in
    rw out at one) in
    let same = own-outside part parts (λ k d less. apart 0 (suc k) d (omega arith) (omega (arith, less))) rows in
    subst (λ (xs : List Row). IsPermutation rows (partition_rows part rows ++ xs)) same
    (IsPermutation-trans rows (rows_in part rows ++ rest) (partition_rows part rows ++ own_rows parts rest) split
    (IsPermutation-append (rows_in part rows) (partition_rows part rows) rest (own_rows parts rest) first others))
