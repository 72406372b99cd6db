-- Rows placed at the partitions beside their pixels are, for each partition, the rows of its margin.
use Rattle.std.proofs.Common.{◌≡◌, ◌≢◌, ◌∙◌, ◌==◌, ◌+◌, ◌∷◌, ◌++◌, [], ◌<◌, ◌≤◌, ℕ, zero, suc, List, Bool, Option, Some, None, cond, filter, map, take, length, get_or, refl, sym, ap, subst, arith, inl, inr}
use Rattle.std.specs.List.{All, AllPairs, Contains, slice_get}
use Rattle.std.specs.List.Sorted.{IsPermutation, IsSorted}
use Rattle.std.proofs.lemmas.Bool.{cases_Bool, false≢true}
use Rattle.std.proofs.lemmas.Bool.Decides.{Decides-eqb}
use Rattle.std.proofs.lemmas.List.{map-append}
use Rattle.std.proofs.lemmas.List.Elements.{All-append, All-filter, All-map, Contains-append_right, Contains-get_or, filter-append, filter_more, filter_passes}
use Rattle.std.proofs.lemmas.List.Sorted.{All-permutation, length_permutation}
use Rattle.std.proofs.lemmas.Option.{get_or_from_slice_get, slice_get_within}
use Rattle.hx_base.specs.declared.pixel.Pixel.{Pixel}
use Rattle.hx_base.specs.declared.row.Row.{Row}
use Rattle.hx_base.specs.Contents.{TellsMargin, partition_rows}
use Rattle.hx_base.specs.Pixels.{HoldsPosition, pixel_of, rows_in}
use Rattle.hx_base.specs.Rows.{IsGood, row_cmp, sorted_rows}
use Rattle.hx_base.proofs.RowOrder.{rows_exact, rows_total}
use Rattle.hx_base.proofs.Sorting.{permutes}
use Rattle.hx_ptree.specs.Searches.{IsHolder}
use Rattle.hx_spill.specs.Splits.{placed_at, placed_cmp, slice}
use Rattle.hx_spill.specs.Values.{AreMarginSplit}
use Rattle.hx_spill.specs.declared.split.Placed.{Placed}
use Rattle.hx_margin.specs.Beside.{AreBeside, AreBesideLast, IsBeside, IsBesideAt}
use Rattle.hx_margin.specs.Steps.{AreCollected, IsIn}
use Rattle.hx_margin.proofs.Margins.{margin_tells, margin_test}
use Rattle.hx_margin.proofs.Orders.{slice_is}
use Rattle.hx_margin.proofs.Reach.{margin_by_pixel, row_lies}

-- a row at partitions
abbrev placed_row : Row → List ℕ → List Placed
placed_row row numbers = map (λ number. placed_at number row) numbers

slice_out : (number : ℕ) (row : Row) (numbers : List ℕ) → ¬ (Contains numbers number) → slice number (placed_row row numbers) ≡ []
slice_out number row [] off = refl
slice_out number row (n ∷ numbers) off =
    elim (cases_Bool (n == number)) [
      | inl same ↦ absurd (off (0, omega arith, (Decides-eqb n number).0 same))
      | inr other ↦ rw other (slice_out number row numbers (λ h. off (Contains-append_right (n ∷ []) numbers number h)))
    ]

apart_tail : (n : ℕ) (numbers : List ℕ) → AllPairs (λ a b. a ≢ b) (n ∷ numbers) → AllPairs (λ a b. a ≢ b) numbers
apart_tail n numbers once = λ i j d lt within. once (suc i) (suc j) d (omega (arith, lt)) (omega (arith, within))

not_again : (n number : ℕ) (numbers : List ℕ) → n ≡ number → AllPairs (λ a b. a ≢ b) (n ∷ numbers) → ¬ (Contains numbers number)
not_again n number numbers same once h = once 0 (suc h.0) number (omega arith) (omega (arith, h.1)) (same ∙ sym h.2)

in_tail : (n number : ℕ) (numbers : List ℕ) → n ≢ number → Contains (n ∷ numbers) number → Contains numbers number
in_tail n number numbers other (zero, lt, e) = absurd (other e)
in_tail n number numbers other (suc k, lt, e) = (k, omega (arith, lt), e)

slice_in : (number : ℕ) (row : Row) (numbers : List ℕ) → AllPairs (λ a b. a ≢ b) numbers → Contains numbers number → slice number (placed_row row numbers) ≡ row ∷ []
slice_in number row [] once h = absurd (omega (arith, h.1))
slice_in number row (n ∷ numbers) once h =
    elim (cases_Bool (n == number)) [
      | inl same ↦ rw same (ap (λ (xs : List Row). row ∷ xs) (slice_out number row numbers (not_again n number numbers ((Decides-eqb n number).0 same) once)))
      | inr other ↦ rw other (slice_in number row numbers (apart_tail n numbers once) (in_tail n number numbers (λ e. false≢true (sym other ∙ (Decides-eqb n number).1 e)) h))
    ]

-- the rows that a partition gets of one row
slice_one : (parts : List Pixel) (m : ℕ) (row : Row) (numbers : List ℕ) (number : ℕ) (part : Pixel) (test : Row → Bool) → m ≤ 29 → slice_get parts number ≡ Some part → part.order ≤ m → TellsMargin part m test
    → AreBeside parts m (pixel_of m row.hp) numbers → slice number (placed_row row numbers) ≡ cond (test row) (row ∷ []) []
slice_one parts m row numbers number part test low there le tells beside =
    let by_pixel = margin_by_pixel part m row le low in
    elim (cases_Bool (test row)) [
      | inl passes ↦
          let at : IsBesideAt parts m (pixel_of m row.hp) number = record { part = part; there = there; beside = by_pixel.0 ((tells row).0 passes) } in
          rw passes (slice_in number row numbers beside.once ((beside.members number).1 at))
      | inr fails ↦
          rw fails
          (slice_out number row numbers (λ h.
          let at = (beside.members number).0 h in
          let both : Some at.part ≡ Some part = sym at.there ∙ there in
          let same : at.part ≡ part = cc in
          let is = by_pixel.1 (subst (λ (p : Pixel). IsBeside p m (pixel_of m row.hp)) same at.beside) in
          false≢true (sym fails ∙ (tells row).1 is)))
    ]

-- the rows up to an index are placed, and the partitions beside the last pixel are known
pub record ArePlacedTo (parts : List Pixel) (m : ℕ) (rows : List Row) (index : ℕ) (last : Option ℕ) (numbers : List ℕ) (found : List Placed) : Type 0 where
  pub known : AreBesideLast parts m last numbers
  pub collected : AreCollected parts m (take index rows) found
  pub good : All (λ p. IsGood p.row) found

pub none_placed : (parts : List Pixel) (m : ℕ) (rows : List Row) (last : Option ℕ) (numbers : List ℕ) (found : List Placed) → last ≡ None → found ≡ [] → ArePlacedTo parts m rows 0 last numbers found
none_placed parts m rows last numbers found unknown none = record {
  known = rw unknown tt;
  collected = record {
    numbers = λ k d lt. absurd (let size = ap length none in omega (arith, lt, size));
    each = λ number part test there tells. rw none refl;
  };
  good = λ k d lt. absurd (let size = ap length none in omega (arith, lt, size));
}

module _ (parts : List Pixel) (m : ℕ) (low : m ≤ 29) (orders : All (λ p. p.order < m) parts) where
  fits : (number : ℕ) (part : Pixel) → slice_get parts number ≡ Some part → part.order ≤ m
  fits number part there =
      let lt = subst (λ (p : Pixel). p.order < m) (get_or_from_slice_get parts number part part there) (orders number part (slice_get_within parts number part there)) in
      omega (arith, lt)

  pub one_placed : (rows : List Row) (index : ℕ) (row : Row) (last last' : Option ℕ) (before numbers : List ℕ) (old new : List Placed) → ArePlacedTo parts m rows index last before old → index < length rows
      → row ≡ get_or rows index row → IsGood row → last' ≡ Some (pixel_of m row.hp) → AreBeside parts m (pixel_of m row.hp) numbers → new ≡ old ++ map (λ number. placed_at number row) numbers
      → ArePlacedTo parts m rows (index + 1) last' numbers new
  one_placed rows index row last last' before numbers old new placed lt at good known beside pushed = record {
    known = rw known beside;
    collected = record {
      numbers = rw pushed
          (All-append (λ (p : Placed). p.part < length parts) old (placed_row row numbers) placed.collected.numbers
          (All-map (λ (p : Placed). p.part < length parts) (λ (n : ℕ). placed_at n row) numbers (λ k d inside.
          let there = (beside.members (get_or numbers k d)).0 (Contains-get_or numbers k d inside) in
          slice_get_within parts (get_or numbers k d) there.part there.there)));
      each = λ number part test there tells.
          let one = slice_one parts m row numbers number part test low there (fits number part there) tells beside in
          let had = placed.collected.each number part test there tells in
          let whole : slice number (old ++ placed_row row numbers) ≡ slice number old ++ slice number (placed_row row numbers) =
          ap (λ (xs : List Placed). map (λ (p : Placed). p.row) xs) (filter-append (λ (p : Placed). p.part == number) old (placed_row row numbers))
          ∙ map-append (λ (p : Placed). p.row) (filter (λ (p : Placed). p.part == number) old) (filter (λ (p : Placed). p.part == number) (placed_row row numbers)) in
          let more : filter test (take (index + 1) rows) ≡ filter test (take index rows) ++ cond (test (get_or rows index row)) (get_or rows index row ∷ []) [] = filter_more test rows index row lt in
          let here : cond (test row) (row ∷ []) [] ≡ cond (test (get_or rows index row)) (get_or rows index row ∷ []) [] = ap (λ (r : Row). cond (test r) (r ∷ []) []) at in
          ap (slice number) pushed ∙ whole ∙ ap (λ (xs : List Row). xs ++ slice number (placed_row row numbers)) had ∙ ap (λ (xs : List Row). filter test (take index rows) ++ xs) (one ∙ here) ∙ sym more;
    };
    good = rw pushed
        (All-append (λ (p : Placed). IsGood p.row) old (placed_row row numbers) placed.good (All-map (λ (p : Placed). IsGood p.row) (λ (n : ℕ). placed_at n row) numbers (λ k d inside. good)));
  }

  -- a row that the partition of a number contains has its pixel there
  pub is_in : (own order : ℕ) (row : Row) → IsHolder parts row.hp (Some own) → ((part : Pixel) → slice_get parts own ≡ Some part → part.order ≡ order) → IsIn parts own order m (pixel_of m row.hp)
  is_in own order row holder same = record {
    part = holder.0;
    there = holder.1;
    same_order = same holder.0 holder.1;
    lies = (row_lies holder.0 m row (fits own holder.0 holder.1) low).1 holder.2;
  }

-- rows of one partition: what is told of the partition that holds the first position holds of each row's
pub first_order : (parts : List Pixel) (own order hp : ℕ) (rows : List Row) (row : Row) (index : ℕ) → All (λ r. IsHolder parts r.hp (Some own)) rows → ((d : Row) → 0 < length rows → hp ≡ (get_or rows 0 d).hp)
    → ((part : Pixel) → Contains parts part → HoldsPosition part hp → part.order ≡ order) → index < length rows → (part : Pixel) → slice_get parts own ≡ Some part → part.order ≡ order
first_order parts own order hp rows row index holders first told lt part there =
    let some : 0 < length rows = omega (arith, lt) in
    let one = holders 0 row some in
    let both : Some one.0 ≡ Some part = sym one.1 ∙ there in
    let same : one.0 ≡ part = cc in
    let holds : HoldsPosition part (get_or rows 0 row).hp = subst (λ (p : Pixel). HoldsPosition p (get_or rows 0 row).hp) same one.2 in
    told part (own, slice_get_within parts own part there, get_or_from_slice_get parts own part part there) (subst (λ (n : ℕ). HoldsPosition part n) (sym (first row some)) holds)

-- sorted, they are the split of the rows
pub split_of : (parts : List Pixel) (m : ℕ) (rows : List Row) (found placed : List Placed) → AreCollected parts m rows found → IsSorted placed_cmp placed → IsPermutation found placed → AreMarginSplit parts m rows placed
split_of parts m rows found placed collected is moved = record {
  in_order = is;
  each = λ number part there. record {
    test = margin_test part m;
    tells = margin_tells part m;
    listed = slice_is number found placed is moved ∙ ap sorted_rows (collected.each number part (margin_test part m) there (margin_tells part m));
  };
  no_other = All-permutation (λ (p : Placed). p.part < length parts) found placed moved collected.numbers;
}

-- good rows are good in any order
pub good_placed : (found placed : List Placed) → IsPermutation found placed → All (λ p. IsGood p.row) found → All (λ p. IsGood p.row) placed
good_placed found placed moved good = All-permutation (λ (p : Placed). IsGood p.row) found placed moved good

pub good_sorted : (rows now : List Row) → now ≡ sorted_rows rows → All IsGood rows → All IsGood now
good_sorted rows now is good = rw is (All-permutation IsGood rows (sorted_rows rows) (permutes row_cmp rows_total rows_exact rows) good)

pub length_sorted : (rows now : List Row) → now ≡ sorted_rows rows → length now ≡ length rows
length_sorted rows now is = ap length is ∙ length_permutation rows (sorted_rows rows) (permutes row_cmp rows_total rows_exact rows)

-- the rows of a partition, in whatever order
pub rows_held : (parts : List Pixel) (number : ℕ) (part : Pixel) (rows : List Row) → slice_get parts number ≡ Some part → All (λ row. IsHolder parts row.hp (Some number)) (partition_rows part rows)
rows_held parts number part rows there =
    let own = rows_in part rows in
    let each : All (λ row. IsHolder parts row.hp (Some number)) (rows_in part rows) = λ k d lt.
    (part, there, (Decides-eqb (pixel_of part.order (get_or (rows_in part rows) k d).hp) part.number).0 (filter_passes (λ (row : Row). pixel_of part.order row.hp == part.number) rows k d lt)) in
    All-permutation (λ (row : Row). IsHolder parts row.hp (Some number)) own (sorted_rows own) (permutes row_cmp rows_total rows_exact own) each

pub rows_good : (part : Pixel) (rows : List Row) → All IsGood rows → All IsGood (partition_rows part rows)
rows_good part rows good =
    let own = rows_in part rows in
    All-permutation IsGood own (sorted_rows own) (permutes row_cmp rows_total rows_exact own) (All-filter (λ (row : Row). pixel_of part.order row.hp == part.number) IsGood rows good)
