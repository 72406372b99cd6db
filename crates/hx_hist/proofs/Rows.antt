-- A histogram of rows has in each pixel as many as the rows do.
use Rattle.std.proofs.Common.{◌≡◌, ◌∙◌, ◌+◌, ◌-◌, ◌*◌, ◌/◌, ◌^◌, ◌<◌, ◌≤◌, ◌∷◌, ◌==◌, [], ℕ, List, zero, suc, length, refl, sym, ap, arith, inl, inr, ◌⊎◌, if◌then◌else◌}
use Rattle.std.specs.List.{filter, sum_by}
use Rattle.std.proofs.lemmas.Bool.{cases_eq, cases_lt, eq-eqb, ne_eqb}
use Rattle.std.proofs.lemmas.List.Sums.{sum_by-cons}
use Rattle.std.proofs.Math.Nat.{div-lt_iff_lt-mul, le-div_iff_mul-le}
use Rattle.hx_base.specs.declared.pixel.Pixel.{Pixel}
use Rattle.hx_base.specs.declared.row.Row.{Row}
use Rattle.hx_base.specs.Pixels.{count_in, pixel_of}
use Rattle.hx_base.proofs.Partitions.{Agree, up_again}
use Rattle.hx_base.proofs.Powers.{four_pos}
use Rattle.hx_hist.specs.Histograms.{count_at, total_in}
use Rattle.hx_hist.specs.declared.hist.Pair.{Pair}
use Rattle.hx_hist.proofs.Pairs.{same_filter, sum_by-filter}

-- the sum of f over the first numbers from a on
abbrev over : (ℕ → ℕ) → ℕ → ℕ → ℕ
over f a zero = 0
over f a (suc n) = over f a n + f (a + n)

over_same : (f g : ℕ → ℕ) (a n : ℕ) → ((p : ℕ) → f p ≡ g p) → over f a n ≡ over g a n
over_same f g a zero h = refl
over_same f g a (suc n) h = omega (arith, over_same f g a n h, h (a + n))

over_add : (f g : ℕ → ℕ) (a n : ℕ) → over (λ p. f p + g p) a n ≡ over f a n + over g a n
over_add f g a zero = refl
over_add f g a (suc n) = omega (arith, over_add f g a n)

over_none : (a n : ℕ) → over (λ p. 0) a n ≡ 0
over_none a zero = refl
over_none a (suc n) = omega (arith, over_none a n)

-- what has one number counts at that number
abbrev only : ℕ → ℕ → ℕ → ℕ
only x c p = if x == p then c else 0

only_other : (x c p : ℕ) → (x ≡ p → ⊥) → only x c p ≡ 0
only_other x c p ne = rw (ne_eqb x p ne) refl

over_out : (x c a n : ℕ) → (x < a) ⊎ (a + n ≤ x) → over (only x c) a n ≡ 0
over_out x c a zero out = refl
over_out x c a (suc n) out =
    let rest = over_out x c a n (elim out [ inl low ↦ inl low | inr high ↦ inr (omega arith) ]) in
    let last = only_other x c (a + n) (λ e. elim out [ inl low ↦ absurd (omega arith) | inr high ↦ absurd (omega arith) ]) in
    omega (arith, rest, last)

over_in : (x c a n : ℕ) → a ≤ x → x < a + n → over (only x c) a n ≡ c
over_in x c a zero low high = absurd (omega arith)
over_in x c a (suc n) low high =
    elim (cases_eq x (a + n)) [
      | inl at ↦
          let rest = over_out x c a n (inr (omega arith)) in
          let last : only x c (a + n) ≡ c = rw (eq-eqb x (a + n) at) refl in
          omega (arith, rest, last)
      | inr off ↦
          let rest = over_in x c a n low (omega arith) in
          let last = only_other x c (a + n) off in
          omega (arith, rest, last)
    ]

-- each number counts at one of the numbers that its quotient stands for
one_group : (k c number d : ℕ) → 0 < d → (if k / d == number then c else 0) ≡ over (only k c) (number * d) d
one_group k c number d some =
    elim (cases_eq (k / d) number) [
      | inl same ↦
          let low = (le-div_iff_mul-le {k = d} {x = number} {y = k} some).0 (omega arith) in
          let high = (div-lt_iff_lt-mul {k = d} {x = k} {y = number + 1} some).0 (omega arith) in
          rw (eq-eqb (k / d) number same) (sym (over_in k c (number * d) d low (grind (arith, high))))
      | inr other ↦
          rw (ne_eqb (k / d) number other) (sym (over_out k c (number * d) d (elim (cases_lt k (number * d)) [
            | inl low ↦ inl low
            | inr more ↦
                let least = (le-div_iff_mul-le {k = d} {x = number} {y = k} some).1 more in
                let next = (le-div_iff_mul-le {k = d} {x = number + 1} {y = k} some).0 (omega arith) in
                inr (grind (arith, next))
          ])))
    ]

module _ {X : Type 0} (f : X → ℕ) (key : X → ℕ) (number d : ℕ) (some : 0 < d) where
  abbrev part : X → ℕ
  part x = if key x / d == number then f x else 0

  abbrev share : ℕ → X → ℕ
  share p x = if key x == p then f x else 0

  shares : (xs : List X) → sum_by part xs ≡ over (λ p. sum_by (share p) xs) (number * d) d
  shares [] = sym (over_none (number * d) d)
  shares (x ∷ xs) =
      sum_by-cons part x xs ∙ ap (λ n. n + sum_by part xs) (one_group (key x) (f x) number d some) ∙ ap (λ n. over (only (key x) (f x)) (number * d) d + n) (shares xs)
      ∙ sym (over_add (only (key x) (f x)) (λ p. sum_by (share p) xs) (number * d) d)
      ∙ over_same (λ p. only (key x) (f x) p + sum_by (share p) xs) (λ p. sum_by (share p) (x ∷ xs)) (number * d) d (λ p. sym (sum_by-cons (share p) x xs))

  -- a group's sum is that of its numbers
  grouped : (xs : List X) → sum_by f (filter (λ x. key x / d == number) xs) ≡ over (λ p. sum_by f (filter (λ x. key x == p) xs)) (number * d) d
  grouped xs =
      sum_by-filter f (λ x. key x / d == number) xs ∙ shares xs
      ∙ over_same (λ p. sum_by (share p) xs) (λ p. sum_by f (filter (λ x. key x == p) xs)) (number * d) d (λ p. sym (sum_by-filter f (λ x. key x == p) xs))

ones : {X : Type 0} (xs : List X) → sum_by (λ x. 1) xs ≡ length xs
ones [] = refl
ones {X} (x ∷ xs) = let e = sum_by-cons (λ (y : X). 1) x xs in omega (arith, e, ones xs)

-- the rows of a finer order's pixels, counted by pixel
row_groups : (order : ℕ) (pixel : Pixel) (rows : List Row) → order ≤ 29 → pixel.order ≤ order
    → count_in pixel rows ≡ over (λ p. count_in (record { order = order; number = p }) rows) (pixel.number * 4 ^ (order - pixel.order)) (4 ^ (order - pixel.order))
unfolding pixel_of
row_groups order pixel rows within le =
    let key = λ (row : Row). pixel_of order row.hp in
    let d = 4 ^ (order - pixel.order) in
    let up = same_filter (λ (row : Row). pixel_of pixel.order row.hp == pixel.number) (λ (row : Row). key row / d == pixel.number) rows
    (λ row. ap (λ (n : ℕ). n == pixel.number) (sym (up_again 29 order pixel.order row.hp le within))) in
    ap length up ∙ sym (ones (filter (λ (row : Row). key row / d == pixel.number) rows))
    ∙ grouped (λ (row : Row). 1) key pixel.number d (four_pos (order - pixel.order)) rows
    ∙ over_same (λ p. sum_by (λ (row : Row). 1) (filter (λ (row : Row). key row == p) rows)) (λ p. count_in (record { order = order; number = p }) rows) (pixel.number * d) d
    (λ p. ones (filter (λ (row : Row). key row == p) rows))

-- a histogram's totals are the rows' counts, if its counts are
pub totals_of_rows : (order : ℕ) (pairs : List Pair) (rows : List Row) → order ≤ 29 → ((p : ℕ) → count_at p pairs ≡ count_in (record { order = order; number = p }) rows)
    → (pixel : Pixel) → pixel.order ≤ order → total_in pixel order pairs ≡ count_in pixel rows
totals_of_rows order pairs rows within counts pixel le =
    let d = 4 ^ (order - pixel.order) in
    grouped (λ (pair : Pair). pair.count) (λ (pair : Pair). pair.pixel) pixel.number d (four_pos (order - pixel.order)) pairs
    ∙ over_same (λ p. count_at p pairs) (λ p. count_in (record { order = order; number = p }) rows) (pixel.number * d) d counts
    ∙ sym (row_groups order pixel rows within le)

pub totals_agree : (order : ℕ) (pairs : List Pair) (rows : List Row) → order ≤ 29 → ((p : ℕ) → count_at p pairs ≡ count_in (record { order = order; number = p }) rows)
    → Agree order (λ pixel. total_in pixel order pairs) (λ pixel. count_in pixel rows)
totals_agree order pairs rows within counts = record { same = λ pixel exists le. totals_of_rows order pairs rows within counts pixel le }
