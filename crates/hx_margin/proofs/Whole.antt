-- The rows of a margin, gathered from the partitions around, are the margin's rows, each as often as it came.
use Rattle.std.proofs.Common.{◌≡◌, ◌∙◌, ◌==◌, ◌∷◌, ◌++◌, [], ◌<◌, ◌≤◌, ℕ, List, Bool, true, false, Some, filter, map, length, get_or, refl, sym, ap, subst, arith, inl, inr, append_assoc}
use Rattle.std.specs.List.{All, AllPairs, Any, Contains, flat_map, slice_get}
use Rattle.std.specs.List.Sorted.{IsPermutation}
use Rattle.std.proofs.lemmas.Bool.{cases_Bool}
use Rattle.std.proofs.lemmas.List.{get_or-map, length-map}
use Rattle.std.proofs.lemmas.List.Concat.{flat_map-cons}
use Rattle.std.proofs.lemmas.List.Elements.{All-contains, All-head, All-tail, Contains-get_or}
use Rattle.std.proofs.lemmas.List.Sorted.{IsPermutation-append, IsPermutation-append_comm, IsPermutation-append_left, IsPermutation-append_right, IsPermutation-cons, IsPermutation-refl, IsPermutation-trans}
use Rattle.std.proofs.lemmas.Option.{get_or_from_slice_get, slice_get-get_or, slice_get_within}
use Rattle.hx_base.specs.declared.pixel.Pixel.{Pixel}
use Rattle.hx_base.specs.declared.row.Row.{Row}
use Rattle.hx_base.specs.Contents.{AreMarginRows, TellsMargin}
use Rattle.hx_base.specs.Partitions.{holders_of}
use Rattle.hx_base.specs.Pixels.{AreDisjoint, AreDisjointInOrder, IsPixel, PixelContains, pixel_of, rows_in}
use Rattle.hx_base.specs.Rows.{row_cmp, sorted_rows}
use Rattle.hx_base.proofs.Partitions.{holders_one}
use Rattle.hx_base.proofs.RowOrder.{rows_exact, rows_total}
use Rattle.hx_base.proofs.Sorting.{permutes, same_sorted}
use Rattle.hx_spill.specs.Splits.{slice as slice_for}
use Rattle.hx_spill.specs.declared.split.Placed.{Placed}
use Rattle.hx_margin.specs.Around.{AreAround, IsAroundAt}
use Rattle.hx_margin.specs.Slices.{AreSlices, AreSplitsOf, IsSlice}
use Rattle.hx_margin.proofs.Margins.{margin_tells, margin_test, same_filters}
use Rattle.hx_margin.proofs.Orders.{filter_sorted}
use Rattle.hx_margin.proofs.Reach.{reach}

-- rows that are put before a list and behind its start
shift : (front middle back after : List Row) → IsPermutation (front ++ back) after → IsPermutation (front ++ (middle ++ back)) (middle ++ after)
shift front middle back after h =
    let swapped = IsPermutation-append_left back (front ++ middle) (middle ++ front) (IsPermutation-append_comm front middle) in
    let moved : IsPermutation (front ++ (middle ++ back)) (middle ++ (front ++ back)) =
    subst (λ (xs : List Row). IsPermutation xs (middle ++ (front ++ back))) (append_assoc front middle back)
    (subst (λ (ys : List Row). IsPermutation ((front ++ middle) ++ back) ys) (append_assoc middle front back) swapped) in
    IsPermutation-trans (front ++ (middle ++ back)) (middle ++ (front ++ back)) (middle ++ after) moved (IsPermutation-append_right middle (front ++ back) after h)

module _ (test : Row → Bool) where
  -- the slice of one partition
  abbrev slice : List Row → Pixel → List Row
  slice rows p = filter test (rows_in p rows)

  abbrev holds : Pixel → Row → Bool
  holds p row = pixel_of p.order row.hp == p.number

  -- a row that fails the test is in no slice
  slice_failed : (row : Row) (rows : List Row) (p : Pixel) → test row ≡ false → slice (row ∷ rows) p ≡ slice rows p
  slice_failed row rows p fails =
      elim (cases_Bool (holds p row)) [
        | inl in' ↦ rw (in', fails) refl
        | inr out ↦ rw out refl
      ]

  all_failed : (row : Row) (rows : List Row) (read : List Pixel) → test row ≡ false → flat_map (slice (row ∷ rows)) read ≡ flat_map (slice rows) read
  all_failed row rows [] fails = refl
  all_failed row rows (p ∷ ps) fails =
      flat_map-cons (slice (row ∷ rows)) p ps ∙ ap (λ (xs : List Row). xs ++ flat_map (slice (row ∷ rows)) ps) (slice_failed row rows p fails)
      ∙ ap (λ (xs : List Row). slice rows p ++ xs) (all_failed row rows ps fails) ∙ sym (flat_map-cons (slice rows) p ps)

  slice_in : (row : Row) (rows : List Row) (p : Pixel) → test row ≡ true → holds p row ≡ true → slice (row ∷ rows) p ≡ row ∷ slice rows p
  slice_in row rows p passes in' = rw (in', passes) refl

  slice_out : (row : Row) (rows : List Row) (p : Pixel) → holds p row ≡ false → slice (row ∷ rows) p ≡ slice rows p
  slice_out row rows p out = rw out refl

  -- the row, as often as a pixel of a list holds it
  abbrev copies : Row → List Pixel → List Row
  copies row read = map (λ (p : Pixel). row) (holders_of row.hp read)

  copies_in : (row : Row) (p : Pixel) (ps : List Pixel) → holds p row ≡ true → copies row (p ∷ ps) ≡ row ∷ copies row ps
  copies_in row p ps in' = rw in' refl

  copies_out : (row : Row) (p : Pixel) (ps : List Pixel) → holds p row ≡ false → copies row (p ∷ ps) ≡ copies row ps
  copies_out row p ps out = rw out refl

  abbrev Pulled : Row → List Row → List Pixel → Type 0
  Pulled row rows read = IsPermutation (copies row read ++ flat_map (slice rows) read) (flat_map (slice (row ∷ rows)) read)

  pulled : (row : Row) (rows : List Row) (read : List Pixel) → test row ≡ true → Pulled row rows read
  pulled row rows [] passes = IsPermutation-refl []
  pulled row rows (p ∷ ps) passes =
      let rest = shift (copies row ps) (slice rows p) (flat_map (slice rows) ps) (flat_map (slice (row ∷ rows)) ps) (pulled row rows ps passes) in
      elim (cases_Bool (holds p row)) [
        | inl in' ↦
            rw (flat_map-cons (slice rows) p ps, flat_map-cons (slice (row ∷ rows)) p ps, copies_in row p ps in', slice_in row rows p passes in')
            (IsPermutation-cons row (copies row ps ++ (slice rows p ++ flat_map (slice rows) ps)) (slice rows p ++ flat_map (slice (row ∷ rows)) ps) rest)
        | inr out ↦
            rw (flat_map-cons (slice rows) p ps, flat_map-cons (slice (row ∷ rows)) p ps, copies_out row p ps out, slice_out row rows p out) rest
      ]

  one_copy : (row : Row) (xs : List Pixel) → length xs ≡ 1 → map (λ (p : Pixel). row) xs ≡ row ∷ []
  one_copy row [] e = absurd (omega (arith, e))
  one_copy row (x ∷ []) e = refl
  one_copy row (x ∷ y ∷ xs) e = absurd (omega (arith, e))

  -- each row that passes is held by one pixel of the list
  gathered : (rows : List Row) (read : List Pixel) → All (λ row. test row ≡ true → length (holders_of row.hp read) ≡ 1) rows → IsPermutation (filter test rows) (flat_map (slice rows) read)
  gathered [] read once = none read
    where
      none : (read : List Pixel) → IsPermutation {X = Row} [] (flat_map (slice []) read)
      none [] = IsPermutation-refl []
      none (p ∷ ps) = none ps
  gathered (row ∷ rows) read once =
      let rest = gathered rows read (All-tail (λ row. test row ≡ true → length (holders_of row.hp read) ≡ 1) row rows once) in
      elim (cases_Bool (test row)) [
        | inl passes ↦
            let one = one_copy row (holders_of row.hp read) (All-head (λ row. test row ≡ true → length (holders_of row.hp read) ≡ 1) row rows once passes) in
            let first = subst (λ (xs : List Row). IsPermutation (xs ++ flat_map (slice rows) read) (flat_map (slice (row ∷ rows)) read)) one (pulled row rows read passes) in
            rw passes (IsPermutation-trans (row ∷ filter test rows) (row ∷ flat_map (slice rows) read) (flat_map (slice (row ∷ rows)) read) (IsPermutation-cons row (filter test rows) (flat_map (slice rows) read) rest) first)
        | inr fails ↦ rw (fails, all_failed row rows read fails) rest
      ]

-- the partitions of numbers
no_pixel : Pixel
no_pixel = record { order = 0; number = 0 }

pixel_at : List Pixel → ℕ → Pixel
pixel_at parts number = get_or parts number no_pixel

abbrev pixels_at : List Pixel → List ℕ → List Pixel
pixels_at parts numbers = map (pixel_at parts) numbers

there_is : (parts : List Pixel) (number : ℕ) (part : Pixel) → slice_get parts number ≡ Some part → pixel_at parts number ≡ part
unfolding pixel_at
there_is parts number part there = get_or_from_slice_get parts number part no_pixel there

module _ (parts : List Pixel) (disjoint : AreDisjointInOrder parts) (part : Pixel) (numbers : List ℕ) (around : AreAround parts part numbers) where
  within : (i : ℕ) (d : ℕ) → i < length numbers → get_or numbers i d < length parts
  within i d lt =
      let there = (around.members (get_or numbers i d)).0 (Contains-get_or numbers i d lt) in
      slice_get_within parts (get_or numbers i d) there.other there.there

  -- they share no position
  apart : AllPairs AreDisjoint (pixels_at parts numbers)
  unfolding pixel_at
  apart = λ i j d lt inside.
      let size : length (pixels_at parts numbers) ≡ length numbers = length-map numbers (pixel_at parts) in
      let second : j < length numbers = omega (arith, inside, size) in
      let first : i < length numbers = omega (arith, second, lt) in
      let at_i : get_or (pixels_at parts numbers) i d ≡ pixel_at parts (get_or numbers i 0) = get_or-map (pixel_at parts) numbers i 0 d first in
      let at_j : get_or (pixels_at parts numbers) j d ≡ pixel_at parts (get_or numbers j 0) = get_or-map (pixel_at parts) numbers j 0 d second in
      let up : get_or numbers i 0 < get_or numbers j 0 = around.ascending i j 0 lt second in
      let shares = disjoint.disjoint (get_or numbers i 0) (get_or numbers j 0) no_pixel up (within j 0 second) in
      subst (λ (a : Pixel). AreDisjoint a (get_or (pixels_at parts numbers) j d)) (sym at_i) (subst (λ (b : Pixel). AreDisjoint (pixel_at parts (get_or numbers i 0)) b) (sym at_j) shares)

  -- the partition of a number of the list is among them
  member : (number : ℕ) (holder : Pixel) → slice_get parts number ≡ Some holder → Contains numbers number → Contains (pixels_at parts numbers) holder
  member number holder there among =
      let size : length (pixels_at parts numbers) ≡ length numbers = length-map numbers (pixel_at parts) in
      let lt : among.0 < length (pixels_at parts numbers) = omega (arith, among.1, size) in
      let at : get_or (pixels_at parts numbers) among.0 holder ≡ pixel_at parts (get_or numbers among.0 number) = get_or-map (pixel_at parts) numbers among.0 number holder among.1 in
      (among.0, lt, at ∙ ap (pixel_at parts) among.2 ∙ there_is parts number holder there)

  all_rows : (rows : List Row) (m : ℕ) (test : Row → Bool) → m ≤ 29 → All (λ row. Any (λ p. PixelContains p row) parts) rows → TellsMargin part m test
      → IsPermutation (filter test rows) (flat_map (λ p. filter test (rows_in p rows)) (pixels_at parts numbers))
  all_rows rows m test low covered tells =
      gathered test rows (pixels_at parts numbers) (λ k d lt passes.
      let row = get_or rows k d in
      let holder = covered k d lt in
      let there : slice_get parts holder.0 ≡ Some holder.1 = slice_get-get_or parts holder.0 holder.1 holder.2 ∙ ap (λ (p : Pixel). Some p) holder.3 in
      let exists = All-contains IsPixel parts holder.1 disjoint.each (holder.0, holder.2, holder.3) in
      let near = reach part holder.1 m row low exists.order ((tells row).0 passes) holder.4 in
      let found : IsAroundAt parts part holder.0 = record { other = holder.1; there = there; around = near } in
      holders_one row.hp (pixels_at parts numbers) holder.1 apart (member holder.0 holder.1 there ((around.members holder.0).1 found)) holder.4)

-- one slice has the rows of its partition that pass
one_slice : (parts : List Pixel) (part : Pixel) (m : ℕ) (rows : List Row) (number : ℕ) (slice : List Row) → IsSlice parts part m rows number slice
    → IsPermutation (filter (margin_test part m) (rows_in (pixel_at parts number) rows)) slice
one_slice parts part m rows number slice is =
    let test = margin_test part m in
    let own = rows_in is.holder rows in
    let kept = filter_sorted row_cmp test own in
    let again = permutes row_cmp rows_total rows_exact (filter test (sorted_rows own)) in
    let listed : slice ≡ sorted_rows (filter test (sorted_rows own)) = is.belong.listed ∙ ap sorted_rows (same_filters part m is.belong.test test is.belong.tells (margin_tells part m) (sorted_rows own)) in
    let whole = IsPermutation-trans (filter test own) (filter test (sorted_rows own)) (sorted_rows (filter test (sorted_rows own))) kept again in
    subst (λ (p : Pixel). IsPermutation (filter test (rows_in p rows)) slice) (sym (there_is parts number is.holder is.there)) (subst (λ (xs : List Row). IsPermutation (filter test own) xs) (sym listed) whole)

slices_moved : (parts : List Pixel) (part : Pixel) (m : ℕ) (rows : List Row) (numbers : List ℕ) (slices : List (List Row)) → AreSlices parts part m rows numbers slices
    → IsPermutation (flat_map (λ p. filter (margin_test part m) (rows_in p rows)) (pixels_at parts numbers)) (flat_map (λ slice. slice) slices)
slices_moved parts part m rows [] [] each = IsPermutation-refl []
slices_moved parts part m rows [] (s ∷ slices) each = elim each [ ]
slices_moved parts part m rows (n ∷ numbers) [] each = elim each [ ]
slices_moved parts part m rows (n ∷ numbers) (s ∷ slices) each =
    let test = margin_test part m in
    IsPermutation-append (filter test (rows_in (pixel_at parts n) rows)) s (flat_map (λ p. filter test (rows_in p rows)) (pixels_at parts numbers)) (flat_map (λ slice. slice) slices) (one_slice parts part m rows n s each.0)
    (slices_moved parts part m rows numbers slices each.1)

pub gathered_margin : (rows : List Row) (parts : List Pixel) (part : Pixel) (m : ℕ) (numbers : List ℕ) (slices : List (List Row)) → m ≤ 29 → AreDisjointInOrder parts
    → All (λ row. Any (λ p. PixelContains p row) parts) rows → AreAround parts part numbers → AreSlices parts part m rows numbers slices → AreMarginRows part m rows (sorted_rows (flat_map (λ slice. slice) slices))
gathered_margin rows parts part m numbers slices low disjoint covered around each =
    let test = margin_test part m in
    let from = all_rows parts disjoint part numbers around rows m test low covered (margin_tells part m) in
    let by_slices = slices_moved parts part m rows numbers slices each in
    let moved = IsPermutation-trans (filter test rows) (flat_map (λ p. filter test (rows_in p rows)) (pixels_at parts numbers)) (flat_map (λ slice. slice) slices) from by_slices in
    record { test = test; tells = margin_tells part m; listed = sym (same_sorted row_cmp rows_total rows_exact (filter test rows) (flat_map (λ slice. slice) slices) moved) }

-- slices of splits
slices_of : (number : ℕ) (parts : List Pixel) (part : Pixel) (m : ℕ) (rows : List Row) (numbers : List ℕ) (splits : List (List Placed)) → slice_get parts number ≡ Some part → AreSplitsOf parts m rows numbers splits
    → AreSlices parts part m rows numbers (map (slice_for number) splits)
slices_of number parts part m rows [] [] there each = each
slices_of number parts part m rows [] (s ∷ splits) there each = elim each [ ]
slices_of number parts part m rows (n ∷ numbers) [] there each = elim each [ ]
slices_of number parts part m rows (n ∷ numbers) (s ∷ splits) there each =
    let first : IsSlice parts part m rows n (slice_for number s) = record { holder = each.0.holder; there = each.0.there; belong = each.0.value.each number part there } in
    (first, slices_of number parts part m rows numbers splits there each.1)

joined : (number : ℕ) (splits : List (List Placed)) → flat_map (λ (slice : List Row). slice) (map (slice_for number) splits) ≡ flat_map (slice_for number) splits
joined number [] = refl
joined number (s ∷ splits) =
    flat_map-cons (λ (slice : List Row). slice) (slice_for number s) (map (slice_for number) splits) ∙ ap (λ (xs : List Row). slice_for number s ++ xs) (joined number splits) ∙ sym (flat_map-cons (slice_for number) s splits)

pub gathered_splits : (rows : List Row) (parts : List Pixel) (number : ℕ) (part : Pixel) (m : ℕ) (numbers : List ℕ) (splits : List (List Placed)) → m ≤ 29 → AreDisjointInOrder parts
    → All (λ row. Any (λ p. PixelContains p row) parts) rows → slice_get parts number ≡ Some part → AreAround parts part numbers → AreSplitsOf parts m rows numbers splits
    → AreMarginRows part m rows (sorted_rows (flat_map (slice_for number) splits))
gathered_splits rows parts number part m numbers splits low disjoint covered there around each =
    subst (λ (xs : List Row). AreMarginRows part m rows (sorted_rows xs)) (joined number splits)
    (gathered_margin rows parts part m numbers (map (slice_for number) splits) low disjoint covered around (slices_of number parts part m rows numbers splits there each))
