-- Rows that are placed by one rule are placed in one way.
use Rattle.std.proofs.Common.{◌≡◌, ◌∙◌, ◌+◌, ◌<◌, ◌≤◌, ◌∷◌, ◌==◌, [], ℕ, zero, suc, List, Bool, true, false, Some, None, length, refl, sym, ap, arith, inl, inr, get_or}
use Rattle.std.specs.List.{All, AllByRecursion, AllPairs, filter, slice_get}
use Rattle.std.specs.Prelude.{⊤, IsTrue, ◌↔◌}
use Rattle.std.specs.Ordering.{is_gt}
use Rattle.std.proofs.Math.Path.{fun_ext}
use Rattle.std.proofs.lemmas.Bool.{cases_Bool, cases_eq, cases_order, eq-eqb, eqb-true, ne_eqb}
use Rattle.std.proofs.lemmas.List.Elements.{recursion_from_All}
use Rattle.std.proofs.lemmas.Option.{slice_get_cases}
use Rattle.hx_base.specs.Contents.{AreMarginRows, IsInMargin, TellsMargin}
use Rattle.hx_base.specs.Rows.{sorted_rows}
use Rattle.hx_base.specs.declared.pixel.Pixel.{Pixel}
use Rattle.hx_base.specs.declared.row.Row.{Row}
use Rattle.hx_spill.specs.Splits.{placed_cmp, slice}
use Rattle.hx_spill.specs.Values.{ArePlaced}
use Rattle.hx_spill.specs.declared.split.Placed.{Placed}
use Rattle.hx_spill.proofs.Order.{in_order, part_le, placed_total}

-- no part is below one before it
abbrev Rise : List Placed → Type 0
Rise [] = ⊤
Rise (x ∷ xs) = AllByRecursion (λ p. x.part ≤ p.part) xs × Rise xs

rise : (xs : List Placed) → AllPairs (λ a b. is_gt (placed_cmp a b) ≡ false) xs → Rise xs
rise [] pairs = tt
rise (x ∷ xs) pairs = (
  recursion_from_All (λ (p : Placed). x.part ≤ p.part) xs (λ k d lt. part_le x (get_or xs k d) (pairs 0 (suc k) d (omega arith) (omega (arith, lt)))),
  rise xs (λ i j d lt within. pairs (suc i) (suc j) d (omega (arith, lt)) (omega (arith, within))),
)

-- a part below all has no rows
slice_low : (first part : ℕ) (xs : List Placed) → AllByRecursion (λ p. first ≤ p.part) xs → part < first → slice part xs ≡ []
slice_low first part [] all low = refl
slice_low first part (x ∷ xs) all low = rw (ne_eqb x.part part (λ e. omega (arith, e, all.0, low))) (slice_low first part xs all.1 low)

-- nor has one above all
slice_high : (count part : ℕ) (xs : List Placed) → AllByRecursion (λ p. p.part < count) xs → count ≤ part → slice part xs ≡ []
slice_high count part [] all high = refl
slice_high count part (x ∷ xs) all high = rw (ne_eqb x.part part (λ e. omega (arith, e, all.0, high))) (slice_high count part xs all.1 high)

slice_here : (x : Placed) (xs : List Placed) (part : ℕ) → x.part ≡ part → slice part (x ∷ xs) ≡ x.row ∷ slice part xs
slice_here x xs part is = rw (eq-eqb x.part part is) refl

slice_other : (x : Placed) (xs : List Placed) (part : ℕ) → (x.part ≡ part → ⊥) → slice part (x ∷ xs) ≡ slice part xs
slice_other x xs part not = rw (ne_eqb x.part part not) refl

never : (x : Placed) (xs ys : List Placed) → slice x.part ys ≡ [] → slice x.part (x ∷ xs) ≡ slice x.part ys → ⊥
never x xs ys none is = cc (sym (slice_here x xs x.part refl) ∙ is ∙ none)

heads : (x y : Placed) (xs ys : List Placed) → x.part ≡ y.part → slice x.part (x ∷ xs) ≡ slice x.part (y ∷ ys) → x.row ∷ slice x.part xs ≡ y.row ∷ slice x.part ys
heads x y xs ys same is = sym (slice_here x xs x.part refl) ∙ is ∙ slice_here y ys x.part (sym same)

placed_is : (x y : Placed) → x.part ≡ y.part → x.row ≡ y.row → x ≡ y
placed_is x y part row = ap (λ (k : ℕ). record { part = k; row = x.row }) part ∙ ap (λ (r : Row). record { part = y.part; row = r }) row

rests : (x y : Placed) (xs ys : List Placed) (part : ℕ) → x.part ≡ y.part → slice x.part (x ∷ xs) ≡ slice x.part (y ∷ ys) → slice part (x ∷ xs) ≡ slice part (y ∷ ys) → slice part xs ≡ slice part ys
rests x y xs ys part same here there =
    elim (cases_eq x.part part) [
      | inl is ↦
          let tails : slice x.part xs ≡ slice x.part ys = cc (heads x y xs ys same here) in
          ap (λ (k : ℕ). slice k xs) (sym is) ∙ tails ∙ ap (λ (k : ℕ). slice k ys) is
      | inr not ↦ sym (slice_other x xs part not) ∙ there ∙ slice_other y ys part (λ e. not (same ∙ e))
    ]

-- lists in order with the same slices are one
same_slices : (xs ys : List Placed) → Rise xs → Rise ys → ((part : ℕ) → slice part xs ≡ slice part ys) → xs ≡ ys
same_slices [] [] a b is = refl
same_slices [] (y ∷ ys) a b is = absurd (never y ys [] refl (sym (is y.part)))
same_slices (x ∷ xs) [] a b is = absurd (never x xs [] refl (is x.part))
same_slices (x ∷ xs) (y ∷ ys) a b is =
    elim (cases_order x.part y.part) [
      | inl same ↦
          let row : x.row ≡ y.row = cc (heads x y xs ys same (is x.part)) in
          let rest = same_slices xs ys a.1 b.1 (λ part. rests x y xs ys part same (is x.part) (is part)) in
          rw (placed_is x y same row, rest) refl
      | inr (inl less) ↦ absurd (never x xs (y ∷ ys) (slice_low y.part x.part (y ∷ ys) (omega arith, b.0) less) (is x.part))
      | inr (inr more) ↦ absurd (never y ys (x ∷ xs) (slice_low x.part y.part (x ∷ xs) (omega arith, a.0) more) (sym (is y.part)))
    ]

pub placed_once : (parts : List Pixel) (Goes : Pixel → List Row → Type 0) (a b : List Placed) → ((pixel : Pixel) (xs ys : List Row) → Goes pixel xs → Goes pixel ys → xs ≡ ys) → ArePlaced parts Goes a → ArePlaced parts Goes b → a ≡ b
placed_once parts Goes a b one first second =
    same_slices a b (rise a (in_order placed_cmp placed_total a first.in_order)) (rise b (in_order placed_cmp placed_total b second.in_order)) (λ part.
    elim (slice_get_cases parts part).1 [
      | inl (pixel, within, is, at) ↦ one pixel (slice part a) (slice part b) (first.each part pixel is) (second.each part pixel is)
      | inr (past, none) ↦
          slice_high (length parts) part a (recursion_from_All (λ (p : Placed). p.part < length parts) a first.no_other) past
          ∙ sym (slice_high (length parts) part b (recursion_from_All (λ (p : Placed). p.part < length parts) b second.no_other) past)
    ])

-- tests of the same rows are one
same_tests : (a b : Bool) → (IsTrue a → IsTrue b) → (IsTrue b → IsTrue a) → a ≡ b
same_tests true true f g = refl
same_tests false false f g = refl
same_tests true false f g = absurd (cc (f refl))
same_tests false true f g = absurd (cc (g refl))

pub margin_once : (part : Pixel) (margin_order : ℕ) (rows xs ys : List Row) → AreMarginRows part margin_order rows xs → AreMarginRows part margin_order rows ys → xs ≡ ys
margin_once part margin_order rows xs ys a b =
    let same : (row : Row) → a.test row ≡ b.test row = λ row. same_tests (a.test row) (b.test row) (λ is. (b.tells row).1 ((a.tells row).0 is)) (λ is. (a.tells row).1 ((b.tells row).0 is)) in
    a.listed ∙ ap (λ (test : Row → Bool). sorted_rows (filter test rows)) (fun_ext same) ∙ sym b.listed
