-- The pairs of a pixel's children stand together.
use Rattle.std.proofs.Common.{◌≡◌, ◌∙◌, ◌+◌, ◌*◌, ◌/◌, ◌%◌, ◌^◌, ◌<◌, ◌≤◌, ◌==◌, ◌++◌, ℕ, List, Bool, true, false, length, ap, arith, inl, inr, get_or, take, drop}
use Rattle.std.specs.List.{AllWithin, between, filter}
use Rattle.std.proofs.lemmas.Bool.{cases_lt, eq-eqb, ne_eqb}
use Rattle.std.proofs.lemmas.List.{append-nil, get_or-take, get_or-drop, length-take, length-drop}
use Rattle.std.proofs.lemmas.List.Edits.{split_between, length-between, get_or-between}
use Rattle.std.proofs.lemmas.List.Elements.{filter-append}
use Rattle.std.proofs.lemmas.List.Sums.{sum_by-append}
use Rattle.std.proofs.Math.Nat.{div-lt_iff_lt-mul, le-div_iff_mul-le}
use Rattle.hx_hist.specs.Histograms.{total_of}
use Rattle.hx_hist.specs.declared.hist.Pair.{Pair}
use Rattle.hx_hist.proofs.Pairs.{filter_none, filter_all}
use Rattle.hx_base.proofs.Powers.{four_pos, shift_fits}

-- an index in the list: the pixels before it are below one, and those from it on are not
pub record Parts (pixel i : ℕ) (xs : List Pair) : Type 0 where
  pub within : i ≤ length xs
  pub before : AllWithin (λ pair. pair.pixel < pixel) xs 0 i
  pub after : AllWithin (λ pair. pixel ≤ pair.pixel) xs i (length xs)

pub parts_at : (number steps i : ℕ) (xs : List Pair) → number * 4 ^ steps < 2 ^ 64 → i ≤ length xs → AllWithin (λ pair. pair.pixel < number * 2 ^ (2 * steps) % 2 ^ 64) xs 0 i
    → AllWithin (λ pair. number * 2 ^ (2 * steps) % 2 ^ 64 ≤ pair.pixel) xs i (length xs) → Parts (number * 4 ^ steps) i xs
parts_at number steps i xs fits within before after =
    let e = shift_fits number steps fits in
    record {
      within = within;
      before = λ k d lo hi. rw e at before k d lo hi;
      after = λ k d lo hi. rw e at after k d lo hi;
    }

pub ordered : (low high i j : ℕ) (xs : List Pair) (d : Pair) → low ≤ high → Parts low i xs → Parts high j xs → i ≤ j
ordered low high i j xs d le a b =
    elim (cases_lt j i) [
      | inl less ↦
          let first = a.before j d (omega arith) less in
          let second = b.after j d (omega arith) (omega (arith, a.within)) in
          absurd (omega arith)
      | inr more ↦ more
    ]

module _ (steps number : ℕ) where
  abbrev lies_in : Pair → Bool
  lies_in pair = pair.pixel / 4 ^ steps == number

  below_fails : (pair : Pair) → pair.pixel < number * 4 ^ steps → lies_in pair ≡ false
  below_fails pair lt = let q = (div-lt_iff_lt-mul {k = 4 ^ steps} {x = pair.pixel} {y = number} (four_pos steps)).1 lt in ne_eqb (pair.pixel / 4 ^ steps) number (λ e. omega arith)

  above_fails : (pair : Pair) → (number + 1) * 4 ^ steps ≤ pair.pixel → lies_in pair ≡ false
  above_fails pair le = let q = (le-div_iff_mul-le {k = 4 ^ steps} {x = number + 1} {y = pair.pixel} (four_pos steps)).1 le in ne_eqb (pair.pixel / 4 ^ steps) number (λ e. omega arith)

  inside_passes : (pair : Pair) → number * 4 ^ steps ≤ pair.pixel → pair.pixel < (number + 1) * 4 ^ steps → lies_in pair ≡ true
  inside_passes pair le lt =
      let a = (le-div_iff_mul-le {k = 4 ^ steps} {x = number} {y = pair.pixel} (four_pos steps)).1 le in
      let b = (div-lt_iff_lt-mul {k = 4 ^ steps} {x = pair.pixel} {y = number + 1} (four_pos steps)).1 lt in
      eq-eqb (pair.pixel / 4 ^ steps) number (omega arith)

  pub children : (i j : ℕ) (xs : List Pair) → i ≤ j → Parts (number * 4 ^ steps) i xs → Parts ((number + 1) * 4 ^ steps) j xs → filter lies_in xs ≡ between i j xs
  children i j xs le a b =
      let front = filter_none lies_in (take i xs) (λ k d within. let lt : k < i = omega (arith, length-take i xs) in rw (get_or-take i xs k d lt) (below_fails (get_or xs k d) (a.before k d (omega arith) lt))) in
      let size = length-between xs i j b.within in
      let inside = filter_all lies_in (between i j xs) (λ k d within.
      rw (get_or-between xs i j k d (omega arith)) (inside_passes (get_or xs (i + k) d) (a.after (i + k) d (omega arith) (omega (arith, b.within))) (b.before (i + k) d (omega arith) (omega arith)))) in
      let back = filter_none lies_in (drop j xs) (λ k d within. rw (get_or-drop j xs k d) (above_fails (get_or xs (j + k) d) (b.after (j + k) d (omega arith) (omega (arith, length-drop j xs))))) in
      ap (filter lies_in) (split_between xs i j le) ∙ filter-append lies_in (take i xs) (between i j xs ++ drop j xs)
      ∙ rw (front, filter-append lies_in (between i j xs) (drop j xs), inside, back) (append-nil (between i j xs))

pub part_total : (i j : ℕ) (xs : List Pair) → i ≤ j → total_of (between i j xs) ≤ total_of xs
part_total i j xs le =
    let whole = ap total_of (split_between xs i j le) in
    let count : Pair → ℕ = λ pair. pair.count in
    omega (arith, whole, sum_by-append count (take i xs) (between i j xs ++ drop j xs), sum_by-append count (between i j xs) (drop j xs))
