-- Rows by the pixel of order 4 that holds them: one row more, and the sorted lists of the pixels in their order.
use Rattle.std.proofs.Common.{◌≡◌, ◌≢◌, ◌∙◌, ◌==◌, ◌+◌, ◌*◌, ◌^◌, ◌<◌, ◌++◌, ◌∷◌, ◌||◌, [], ℕ, List, Bool, true, false, filter, length, map, take, get_or, set, refl, sym, ap, subst, inl, inr, arith, ltb}
use Rattle.std.specs.List.{All}
use Rattle.std.specs.Ordering.{is_gt, nat_cmp, ordering_then}
use Rattle.std.specs.declared.cmp.Ordering.{Ordering}
use Rattle.std.specs.declared.cmp.Ordering.TheVariants.{Less, Greater}
use Rattle.std.proofs.lemmas.Bool.{cases_eq, eq-eqb, ne_eqb, lt-ltb}
use Rattle.std.proofs.lemmas.Bool.Decides.{nat_tests}
use Rattle.std.proofs.lemmas.List.{get_or-map, get_or-set_other, get_or-set_same, length-append, length-map, length-set, map-set, append-nil, take_more}
use Rattle.std.proofs.lemmas.List.Elements.{All-get_or}
use Rattle.hx_base.specs.Pixels.{pixel_of, rows_in}
use Rattle.hx_base.specs.Rows.{IsGood, row_cmp, sorted_rows}
use Rattle.hx_base.specs.declared.pixel.Pixel.{Pixel}
use Rattle.hx_base.specs.declared.row.Row.{Row}
use Rattle.hx_work.specs.Sorting.{AreByPixel}
use Rattle.hx_work.proofs.InTwo.{either, sorted_in_two}
use Rattle.hx_hist.proofs.Pairs.{filter_all, same_filter}
use Rattle.hx_spill.proofs.Counted.{rows_in-append}

-- the pixel of order 4 of a number
abbrev of_order_4 : ℕ → Pixel
of_order_4 k = record { order = 4; number = k }

-- there are 3072 of them
position_before : (p : ℕ) → p < 12 * 4 ^ 29 → pixel_of 4 p < 3072
unfolding pixel_of
position_before p h = omega arith

module _ {V : Type 0} (of : V → List Row) (rows : List Row) (i : ℕ) (d : Row) (bins : List V) (n : ℕ) (bin e : V) (old : List Row) (good : All IsGood rows) (lt : i < length rows) (is : n ≡ pixel_of 4 (get_or rows i d).hp) (was : old ≡ of (get_or bins n e)) (pushed : of bin ≡ old ++ get_or rows i d ∷ []) (h : AreByPixel (take i rows) (map of bins)) where
  -- a row more in each pixel's rows
  in_pixel : (k : ℕ) → rows_in (of_order_4 k) (take (i + 1) rows) ≡ rows_in (of_order_4 k) (take i rows) ++ rows_in (of_order_4 k) (get_or rows i d ∷ [])
  in_pixel k = ap (rows_in (of_order_4 k)) (take_more rows i d lt) ∙ rows_in-append (of_order_4 k) (take i rows) (get_or rows i d ∷ [])

  few : n < 3072
  few = let below = position_before (get_or rows i d).hp (All-get_or IsGood rows i d lt good).pixel in omega (arith, is, below)

  enough : n < length (map of bins)
  enough = omega (arith, h.count, few)

  changed : get_or (map of bins) n [] ++ get_or rows i d ∷ [] ≡ of bin
  changed = ap (λ (rs : List Row). rs ++ get_or rows i d ∷ []) (get_or-map of bins n e [] (omega (arith, enough, length-map bins of)) ∙ sym was) ∙ sym pushed

  own : (k : ℕ) → k ≡ n → k < 3072 → get_or (set (map of bins) n (of bin)) k [] ≡ rows_in (of_order_4 k) (take (i + 1) rows)
  own k same lt =
      let at = subst (λ (j : ℕ). get_or (set (map of bins) n (of bin)) j [] ≡ of bin) (sym same) (get_or-set_same (map of bins) n (of bin) [] enough) in
      let before = subst (λ (j : ℕ). get_or (map of bins) j [] ≡ rows_in (of_order_4 k) (take i rows)) same (h.each k lt) in
      let more : rows_in (of_order_4 k) (get_or rows i d ∷ []) ≡ get_or rows i d ∷ [] = rw (eq-eqb (pixel_of 4 (get_or rows i d).hp) k (sym (same ∙ is))) refl in
      at ∙ sym changed ∙ ap (λ (rs : List Row). rs ++ get_or rows i d ∷ []) before ∙ ap (λ (rs : List Row). rows_in (of_order_4 k) (take i rows) ++ rs) (sym more) ∙ sym (in_pixel k)

  other : (k : ℕ) → k ≢ n → k < 3072 → get_or (set (map of bins) n (of bin)) k [] ≡ rows_in (of_order_4 k) (take (i + 1) rows)
  other k apart lt =
      let at = get_or-set_other (map of bins) n k (of bin) [] apart in
      let more : rows_in (of_order_4 k) (get_or rows i d ∷ []) ≡ [] = rw (ne_eqb (pixel_of 4 (get_or rows i d).hp) k (λ e. apart (sym (is ∙ e)))) refl in
      at ∙ h.each k lt ∙ sym (ap (λ (rs : List Row). rows_in (of_order_4 k) (take i rows) ++ rs) more ∙ append-nil (rows_in (of_order_4 k) (take i rows))) ∙ sym (in_pixel k)

  each : (k : ℕ) → k < 3072 → get_or (set (map of bins) n (of bin)) k [] ≡ rows_in (of_order_4 k) (take (i + 1) rows)
  each k lt =
      elim (cases_eq k n) [
        | inl same ↦ own k same lt
        | inr apart ↦ other k apart lt
      ]

  pub row_added : AreByPixel (take (i + 1) rows) (map of (set bins n bin))
  row_added = rw (map-set of bins n bin) (record { count = length-set (map of bins) n (of bin) ∙ h.count; each = each })

-- the rows of the pixels of order 4 before one
abbrev before : ℕ → Row → Bool
before k row = ltb (pixel_of 4 row.hp) k

abbrev within : ℕ → Row → Bool
within k row = pixel_of 4 row.hp == k

abbrev pub rows_before : ℕ → List Row → List Row
rows_before k rows = filter (before k) rows

first_less : (m n : ℕ) (o : Ordering) → m < n → is_gt (ordering_then (nat_cmp m n) o) ≡ false
first_less m n o less = let below : nat_cmp m n ≡ Less = grind (arith, nat_tests) in rw below refl

first_more : (m n : ℕ) (o : Ordering) → n < m → is_gt (ordering_then (nat_cmp m n) o) ≡ true
first_more m n o more = let above : nat_cmp m n ≡ Greater = grind (arith, nat_tests) in rw above refl

-- what lies in an earlier pixel has the lesser position
lesser : (k : ℕ) (a b : Row) → before k a ≡ true → within k b ≡ true → a.hp < b.hp
unfolding pixel_of
lesser k a b first second = grind (arith, nat_tests)

up : (k : ℕ) (a b : Row) → before k a ≡ true → within k b ≡ true → is_gt (row_cmp a b) ≡ false
up k a b first second = first_less a.hp b.hp _ (lesser k a b first second)

down : (k : ℕ) (a b : Row) → before k a ≡ true → within k b ≡ true → is_gt (row_cmp b a) ≡ true
down k a b first second = first_more b.hp a.hp _ (lesser k a b first second)

one_more : (m k : ℕ) → (ltb m k || m == k) ≡ ltb m (k + 1)
one_more m k = grind (arith, nat_tests)

-- the next pixel's rows, sorted, go behind those before
pub next_pixel : (k : ℕ) (rows : List Row) → sorted_rows (rows_before (k + 1) rows) ≡ sorted_rows (rows_before k rows) ++ sorted_rows (rows_in (of_order_4 k) rows)
next_pixel k rows =
    ap sorted_rows (same_filter (before (k + 1)) (either row_cmp (before k) (within k) (up k) (down k)) rows (λ (row : Row). sym (one_more (pixel_of 4 row.hp) k)))
    ∙ sorted_in_two row_cmp (before k) (within k) (up k) (down k) rows

pub all_before : (rows : List Row) → All IsGood rows → rows_before 3072 rows ≡ rows
all_before rows good = filter_all (before 3072) rows (λ k d lt. lt-ltb _ 3072 (position_before _ (good k d lt).pixel))

pub none_before : (rows : List Row) → rows_before 0 rows ≡ []
none_before [] = refl
none_before (row ∷ rows) = let no : ltb (pixel_of 4 row.hp) 0 ≡ false = grind (arith, nat_tests) in rw no (none_before rows)

module _ {V : Type 0} (of : V → List Row) (rows : List Row) where
  in_its_place : (done rest : List V) (bin : V) → get_or (map of (done ++ bin ∷ rest)) (length done) [] ≡ of bin
  in_its_place [] rest bin = refl
  in_its_place (d ∷ done) rest bin = in_its_place done rest bin

  within_length : (done rest : List V) (bin : V) → length done < length (map of (done ++ bin ∷ rest))
  within_length done rest bin = omega (arith, length-map (done ++ bin ∷ rest) of, length-append done (bin ∷ rest))

  -- the rows of one pixel more, sorted
  pub pixel_done : (done rest : List V) (bin : V) (sorted : List Row) → sorted ≡ sorted_rows (rows_before (length done) rows) → AreByPixel rows (map of (done ++ bin ∷ rest)) → sorted ++ sorted_rows (of bin) ≡ sorted_rows (rows_before (length (done ++ bin ∷ [])) rows)
  pixel_done done rest bin sorted so_far h =
      let few : length done < 3072 = omega (arith, within_length done rest bin, h.count) in
      let own = sym (in_its_place done rest bin) ∙ h.each (length done) few in
      let count : length (done ++ bin ∷ []) ≡ length done + 1 = length-append done (bin ∷ []) in
      ap (λ (rs : List Row). rs ++ sorted_rows (of bin)) so_far ∙ ap (λ (rs : List Row). sorted_rows (rows_before (length done) rows) ++ sorted_rows rs) own ∙ sym (next_pixel (length done) rows)
      ∙ ap (λ (n : ℕ). sorted_rows (rows_before n rows)) (sym count)

  -- the rows of all pixels
  pub all_done : (done : List V) (sorted : List Row) → All IsGood rows → sorted ≡ sorted_rows (rows_before (length done) rows) → AreByPixel rows (map of done) → sorted ≡ sorted_rows rows
  all_done done sorted good so_far h =
      let count : length done ≡ 3072 = omega (arith, length-map done of, h.count) in
      so_far ∙ ap (λ (n : ℕ). sorted_rows (rows_before n rows)) count ∙ ap sorted_rows (all_before rows good)
