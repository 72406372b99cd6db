-- The rows of some inputs, one range of them after another.
use Rattle.std.proofs.Common.{◌≡◌, ◌≤◌, ◌<◌, ◌+◌, ◌-◌, ◌++◌, ◌∷◌, ◌∙◌, ℕ, List, [], drop, get_or, length, take, refl, sym, ap, append_assoc, subst, arith}
use Rattle.std.specs.List.{slice_range}
use Rattle.std.proofs.Math.Nat.{sub-zero, sub_self}
use Rattle.std.proofs.Math.Seq.{take-add}
use Rattle.std.proofs.lemmas.List.{drop-drop, drop_more}
use Rattle.hx_base.specs.declared.row.Row.{Row}
use Rattle.hx_inputs.specs.Inputs.{AreRows}
use Rattle.hx_book.specs.Tasks.{JobData, contents_of, names_of}
use Rattle.hx_import.specs.Given.{AreFirstRows, AreRowsBetween}

module _ {A : Type 0} (xs : List A) where
  range_none : (n : ℕ) → slice_range xs n n ≡ []
  range_none n = ap (λ (k : ℕ). take k (drop n xs)) (sub_self n)

  range_first : (n : ℕ) → slice_range xs 0 n ≡ take n xs
  range_first n = ap (λ (k : ℕ). take k xs) (sub-zero n)

  pub range_one : (n : ℕ) (d : A) → n < length xs → slice_range xs n (n + 1) ≡ get_or xs n d ∷ []
  range_one n d within =
      let one : n + 1 - n ≡ 1 = omega arith in
      ap (λ (k : ℕ). take k (drop n xs)) one ∙ ap (take 1) (drop_more xs n d within)

  range_both : (from mid to : ℕ) → from ≤ mid → mid ≤ to → slice_range xs from to ≡ slice_range xs from mid ++ slice_range xs mid to
  range_both from mid to low high =
      let all : to - from ≡ mid - from + (to - mid) = omega arith in
      let at : from + (mid - from) ≡ mid = omega arith in
      ap (λ (k : ℕ). take k (drop from xs)) all
      ∙ take-add (mid - from) (to - mid) (drop from xs)
      ∙ ap (λ (rest : List A). slice_range xs from mid ++ take (to - mid) rest) (drop-drop (mid - from) from xs ∙ ap (λ (k : ℕ). drop k xs) at)

rows_both : (names bytes more_names more_bytes : List (List ℕ)) (rows more : List Row) → AreRows names bytes rows → AreRows more_names more_bytes more
    → AreRows (names ++ more_names) (bytes ++ more_bytes) (rows ++ more)
rows_both [] [] more_names more_bytes rows more are next = subst (λ (r : List Row). AreRows more_names more_bytes (r ++ more)) (sym are) next
rows_both [] (b ∷ bytes) more_names more_bytes rows more are next = absurd are
rows_both (n ∷ names) [] more_names more_bytes rows more are next = absurd are
rows_both (n ∷ names) (b ∷ bytes) more_names more_bytes rows more (first, rest, here, others, is) next =
    (first, rest ++ more, here, rows_both names bytes more_names more_bytes rest more others next, ap (λ (r : List Row). r ++ more) is ∙ append_assoc first rest more)

module _ (job : JobData) where
  pub by_ranges : (from to : ℕ) (names bytes : List (List ℕ)) (rows : List Row) → slice_range (names_of job) from to ≡ names → slice_range (contents_of job) from to ≡ bytes
      → AreRows names bytes rows → AreRowsBetween job from to rows
  by_ranges from to names bytes rows named told are =
      subst (λ (bs : List (List ℕ)). AreRows (slice_range (names_of job) from to) bs rows) (sym told) (subst (λ (ns : List (List ℕ)). AreRows ns bytes rows) (sym named) are)

  pub no_rows : (n : ℕ) → AreRowsBetween job n n []
  no_rows n = by_ranges n n [] [] [] (range_none (names_of job) n) (range_none (contents_of job) n) refl

  pub both_rows : (from mid to : ℕ) (rows more : List Row) → from ≤ mid → mid ≤ to → AreRowsBetween job from mid rows → AreRowsBetween job mid to more → AreRowsBetween job from to (rows ++ more)
  both_rows from mid to rows more low high first next =
      by_ranges from to _ _ (rows ++ more) (range_both (names_of job) from mid to low high) (range_both (contents_of job) from mid to low high) (rows_both _ _ _ _ rows more first next)

  pub from_first : (n : ℕ) (rows : List Row) → AreFirstRows job n rows → AreRowsBetween job 0 n rows
  from_first n rows are = by_ranges 0 n _ _ rows (range_first (names_of job) n) (range_first (contents_of job) n) are

  pub are_first : (n : ℕ) (rows : List Row) → AreRowsBetween job 0 n rows → AreFirstRows job n rows
  are_first n rows are =
      subst (λ (bs : List (List ℕ)). AreRows (take n (names_of job)) bs rows) (range_first (contents_of job) n)
      (subst (λ (ns : List (List ℕ)). AreRows ns (slice_range (contents_of job) 0 n) rows) (range_first (names_of job) n) are)
