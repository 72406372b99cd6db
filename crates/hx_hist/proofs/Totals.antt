-- Totals of pixels over parts of a list of pairs.
use Rattle.std.proofs.Common.{◌≡◌, ◌∙◌, ◌+◌, ◌-◌, ◌/◌, ◌^◌, ◌<◌, ◌≤◌, ◌∷◌, ◌++◌, ◌==◌, [], ℕ, List, Bool, true, length, refl, sym, ap, arith, inl, inr, get_or}
use Rattle.std.specs.List.{All, AllPairs, filter, sum_by}
use Rattle.std.proofs.lemmas.Bool.{cases_Bool, eq-eqb}
use Rattle.std.proofs.lemmas.Bool.Decides.{Decides-eqb}
use Rattle.std.proofs.lemmas.List.Elements.{filter-append}
use Rattle.std.proofs.lemmas.List.Sums.{sum_by-append, sum_by-cons}
use Rattle.hx_base.specs.declared.pixel.Pixel.{Pixel}
use Rattle.hx_base.proofs.Partitions.{IsMonotone, up_again}
use Rattle.hx_hist.specs.Histograms.{total_in, total_of}
use Rattle.hx_hist.specs.declared.hist.Pair.{Pair}
use Rattle.hx_hist.proofs.Counts.{count_at_own, found}
use Rattle.hx_hist.proofs.Pairs.{filter_all, same_filter}

abbrev count_of : Pair → ℕ
count_of pair = pair.count

-- a list's total in a pixel is that of its parts
pub total_in-append : (pixel : Pixel) (order : ℕ) (xs ys : List Pair) → total_in pixel order (xs ++ ys) ≡ total_in pixel order xs + total_in pixel order ys
total_in-append pixel order xs ys =
    let test = λ (pair : Pair). pair.pixel / 4 ^ (order - pixel.order) == pixel.number in
    ap (sum_by count_of) (filter-append test xs ys) ∙ sum_by-append count_of (filter test xs) (filter test ys)

-- where there is a total, there is a pair
pub pair_in : (pixel : Pixel) (order : ℕ) (xs : List Pair) → 1 ≤ total_in pixel order xs → (k : ℕ) × (k < length xs) × ((d : Pair) → (get_or xs k d).pixel / 4 ^ (order - pixel.order) ≡ pixel.number)
pair_in pixel order xs some =
    let at = found (λ (pair : Pair). pair.pixel / 4 ^ (order - pixel.order) == pixel.number) xs some in
    (at.0, at.1, λ d. (Decides-eqb _ _).0 (at.2 d))

-- a narrower test has no greater sum
fewer : (p q : Pair → Bool) (xs : List Pair) → ((x : Pair) → p x ≡ true → q x ≡ true) → sum_by count_of (filter p xs) ≤ sum_by count_of (filter q xs)
fewer p q [] wider = omega arith
fewer p q (x ∷ xs) wider =
    let rest = fewer p q xs wider in
    let one = sum_by-cons count_of x (filter p xs) in
    let two = sum_by-cons count_of x (filter q xs) in
    elim (cases_Bool (p x)) [
      | inl is ↦ rw (is, wider x is) (omega arith)
      | inr not ↦ elim (cases_Bool (q x)) [ inl is2 ↦ rw (not, is2) (omega arith) | inr not2 ↦ rw (not, not2) rest ]
    ]

pub total_in_most : (pixel : Pixel) (order : ℕ) (xs : List Pair) → total_in pixel order xs ≤ total_of xs
total_in_most pixel order xs =
    let test = λ (pair : Pair). pair.pixel / 4 ^ (order - pixel.order) == pixel.number in
    let all = fewer test (λ (pair : Pair). true) xs (λ x is. refl) in
    let e = ap (sum_by count_of) (filter_all (λ (pair : Pair). true) xs (λ k d within. refl)) in
    omega (arith, all, e)

-- all pairs of a list are in a pixel
pub total_in_all : (pixel : Pixel) (order : ℕ) (xs : List Pair) → All (λ pair. pair.pixel / 4 ^ (order - pixel.order) ≡ pixel.number) xs → total_in pixel order xs ≡ total_of xs
total_in_all pixel order xs all =
    let test = λ (pair : Pair). pair.pixel / 4 ^ (order - pixel.order) == pixel.number in
    ap (sum_by count_of) (filter_all test xs (λ k d within. eq-eqb _ _ (all k d within)))

-- a pixel has as many rows as each one that lies in it, or more
pub totals_grow : (order : ℕ) (xs : List Pair) → IsMonotone order (λ pixel. total_in pixel order xs)
totals_grow order xs = record {
  grows = λ inner outer exists within lies.
      fewer (λ (pair : Pair). pair.pixel / 4 ^ (order - inner.order) == inner.number) (λ (pair : Pair). pair.pixel / 4 ^ (order - outer.order) == outer.number) xs
      (λ pair is. eq-eqb _ _ (sym (up_again order inner.order outer.order pair.pixel lies.order within) ∙ ap (λ (n : ℕ). n / 4 ^ (inner.order - outer.order)) ((Decides-eqb _ _).0 is) ∙ lies.number));
}

-- a pair's pixel has the pair's count, where the pairs ascend
pub count_is_total : (order : ℕ) (xs : List Pair) (k : ℕ) (d : Pair) → AllPairs (λ a b. a.pixel < b.pixel) xs → k < length xs
    → total_in (record { order = order; number = (get_or xs k d).pixel }) order xs ≡ (get_or xs k d).count
count_is_total order xs k d up within =
    let pixel = (get_or xs k d).pixel in
    let e : order - order ≡ 0 = omega arith in
    rw e (ap (sum_by count_of) (same_filter (λ (pair : Pair). pair.pixel / 1 == pixel) (λ (pair : Pair). pair.pixel == pixel) xs (λ pair. ap (λ (n : ℕ). n == pixel) (omega arith))) ∙ count_at_own xs k d up within)
