-- A merge of two histograms, as far as it has come.
use Rattle.std.proofs.Common.{◌≡◌, ◌∙◌, ◌+◌, ◌*◌, ◌^◌, ◌<◌, ◌≤◌, ◌∷◌, ◌++◌, [], ℕ, List, length, refl, sym, ap, arith, inl, inr, get_or, take}
use Rattle.std.specs.List.{All, AllPairs}
use Rattle.std.proofs.lemmas.Bool.{cases_eq, eq-eqb, ne_eqb}
use Rattle.std.proofs.lemmas.List.{get_or_default, take_more}
use Rattle.std.proofs.lemmas.List.Elements.{All-push}
use Rattle.std.proofs.lemmas.List.Quantifiers.{all_pairs_push}
use Rattle.std.proofs.lemmas.List.Sums.{sum_by-take-le, sum_by_more_le, sum_by_push}
use Rattle.hx_hist.specs.Histograms.{IsHistogram, count_at, total_of}
use Rattle.hx_hist.specs.declared.hist.Pair.{Pair}
use Rattle.hx_hist.proofs.Counts.{count_at-append}
use Rattle.hx_hist.proofs.Pairs.{pixel_key}

abbrev count_of : Pair → ℕ
count_of pair = pair.count

-- a histogram with one more pair behind the others
pub histogram_push : (order : ℕ) (pairs : List Pair) (pair : Pair) → IsHistogram order pairs → All (λ other. other.pixel < pair.pixel) pairs → 0 < pair.count → pair.pixel < 12 * 4 ^ order → IsHistogram order (pairs ++ pair ∷ [])
histogram_push order pairs pair h below some range = record {
  ascending = all_pairs_push (λ a b. a.pixel < b.pixel) pairs pair h.ascending below;
  counted = All-push (λ other. 0 < other.count) pairs pair h.counted some;
  range = All-push (λ other. other.pixel < 12 * 4 ^ order) pairs pair h.range range;
}

-- all is the merge of the first pairs of both lists, and below the next pair of each
pub record IsMerged (left right : List Pair) (i j : ℕ) (all : List Pair) : Type 0 where
  pub in_left : i ≤ length left
  pub in_right : j ≤ length right
  pub counts : (p : ℕ) → count_at p all ≡ count_at p (take i left) + count_at p (take j right)
  pub total : total_of all ≡ total_of (take i left) + total_of (take j right)
  pub below_left : (d : Pair) → i < length left → All (λ pair. pair.pixel < (get_or left i d).pixel) all
  pub below_right : (d : Pair) → j < length right → All (λ pair. pair.pixel < (get_or right j d).pixel) all

swapped : (left right : List Pair) (i j : ℕ) (all : List Pair) → IsMerged left right i j all → IsMerged right left j i all
swapped left right i j all h = record {
  in_left = h.in_right;
  in_right = h.in_left;
  counts = λ p. omega (arith, h.counts p);
  total = omega (arith, h.total);
  below_left = h.below_right;
  below_right = h.below_left;
}

taken_counts : (p i : ℕ) (xs : List Pair) (d : Pair) → i < length xs → count_at p (take (i + 1) xs) ≡ count_at p (take i xs) + count_at p (get_or xs i d ∷ [])
taken_counts p i xs d within = ap (count_at p) (take_more xs i d within) ∙ count_at-append p (take i xs) (get_or xs i d ∷ [])

taken_total : (i : ℕ) (xs : List Pair) (d : Pair) → i < length xs → total_of (take (i + 1) xs) ≡ total_of (take i xs) + (get_or xs i d).count
taken_total i xs d within = ap total_of (take_more xs i d within) ∙ sum_by_push count_of (take i xs) (get_or xs i d)

-- the pixel at an index, whatever stands for what is missing
same_pixel : (i : ℕ) (xs : List Pair) (d e : Pair) → i < length xs → (get_or xs i d).pixel ≡ (get_or xs i e).pixel
same_pixel i xs d e within = ap pixel_key (get_or_default xs i d e within)

-- a pair of one list, where the other's next pixel is above it or there is none
pub merged_left : (left right : List Pair) (i j : ℕ) (all : List Pair) (d : Pair) → AllPairs (λ a b. a.pixel < b.pixel) left → IsMerged left right i j all → i < length left
    → (j < length right → (get_or left i d).pixel < (get_or right j d).pixel) → IsMerged left right (i + 1) j (all ++ get_or left i d ∷ [])
merged_left left right i j all d up h within less = record {
  in_left = omega (arith, within);
  in_right = h.in_right;
  counts = λ p. omega (arith, count_at-append p all (get_or left i d ∷ []), h.counts p, taken_counts p i left d within);
  total = omega (arith, sum_by_push count_of all (get_or left i d), h.total, taken_total i left d within);
  below_left = λ e next.
      let more = up i (i + 1) e (omega arith) next in
      let same = same_pixel i left d e within in
      All-push (λ pair. pair.pixel < (get_or left (i + 1) e).pixel) all (get_or left i d) (λ k z inside. omega (arith, h.below_left e within k z inside, more)) (omega (arith, same, more));
  below_right = λ e next. All-push (λ pair. pair.pixel < (get_or right j e).pixel) all (get_or left i d) (h.below_right e next) (omega (arith, less next, same_pixel j right d e next));
}

pub merged_right : (left right : List Pair) (i j : ℕ) (all : List Pair) (d : Pair) → AllPairs (λ a b. a.pixel < b.pixel) right → IsMerged left right i j all → j < length right
    → (i < length left → (get_or right j d).pixel < (get_or left i d).pixel) → IsMerged left right i (j + 1) (all ++ get_or right j d ∷ [])
merged_right left right i j all d up h within less =
    swapped right left (j + 1) i (all ++ get_or right j d ∷ []) (merged_left right left j i all d up (swapped left right i j all h) within less)

-- pairs of one pixel as one
abbrev pub both_of : Pair → Pair → Pair
both_of x y = record { pixel = x.pixel; count = x.count + y.count }

both_counts : (p : ℕ) (x y : Pair) → x.pixel ≡ y.pixel → count_at p (both_of x y ∷ []) ≡ count_at p (x ∷ []) + count_at p (y ∷ [])
both_counts p x y same =
    elim (cases_eq x.pixel p) [
      | inl at ↦ rw (eq-eqb x.pixel p at, eq-eqb y.pixel p (sym same ∙ at)) (omega arith)
      | inr off ↦ rw (ne_eqb x.pixel p off, ne_eqb y.pixel p (λ e. off (same ∙ e))) refl
    ]

pub merged_both : (left right : List Pair) (i j : ℕ) (all : List Pair) (d : Pair) → AllPairs (λ a b. a.pixel < b.pixel) left → AllPairs (λ a b. a.pixel < b.pixel) right → IsMerged left right i j all → i < length left → j < length right
    → (get_or left i d).pixel ≡ (get_or right j d).pixel → IsMerged left right (i + 1) (j + 1) (all ++ both_of (get_or left i d) (get_or right j d) ∷ [])
merged_both left right i j all d up_left up_right h in_left in_right same =
    let both = both_of (get_or left i d) (get_or right j d) in
    record {
      in_left = omega (arith, in_left);
      in_right = omega (arith, in_right);
      counts = λ p. omega (arith, count_at-append p all (both ∷ []), both_counts p (get_or left i d) (get_or right j d) same, h.counts p, taken_counts p i left d in_left, taken_counts p j right d in_right);
      total = omega (arith, sum_by_push count_of all both, h.total, taken_total i left d in_left, taken_total j right d in_right);
      below_left = λ e next.
          let more = up_left i (i + 1) e (omega arith) next in
          All-push (λ pair. pair.pixel < (get_or left (i + 1) e).pixel) all both (λ k z inside. omega (arith, h.below_left e in_left k z inside, more)) (omega (arith, same_pixel i left d e in_left, more));
      below_right = λ e next.
          let more = up_right j (j + 1) e (omega arith) next in
          All-push (λ pair. pair.pixel < (get_or right (j + 1) e).pixel) all both (λ k z inside. omega (arith, h.below_right e in_right k z inside, more)) (omega (arith, same, same_pixel j right d e in_right, more));
    }

-- what is merged stays below both totals
pub room_left : (left right : List Pair) (i j : ℕ) (all : List Pair) (d : Pair) → IsMerged left right i j all → i < length left → total_of left + total_of right < 2 ^ 64 → total_of all + (get_or left i d).count < 2 ^ 64
room_left left right i j all d h within total = omega (arith, h.total, sum_by_more_le count_of left i d within, sum_by-take-le count_of right j)

pub room_right : (left right : List Pair) (i j : ℕ) (all : List Pair) (d : Pair) → IsMerged left right i j all → j < length right → total_of left + total_of right < 2 ^ 64 → total_of all + (get_or right j d).count < 2 ^ 64
room_right left right i j all d h within total = omega (arith, h.total, sum_by-take-le count_of left i, sum_by_more_le count_of right j d within)

pub room_both : (left right : List Pair) (i j : ℕ) (all : List Pair) (d : Pair) → IsMerged left right i j all → i < length left → j < length right → total_of left + total_of right < 2 ^ 64
    → total_of all + ((get_or left i d).count + (get_or right j d).count) < 2 ^ 64
room_both left right i j all d h in_left in_right total = omega (arith, h.total, sum_by_more_le count_of left i d in_left, sum_by_more_le count_of right j d in_right)
