-- Counts of lists of pairs, and what an edit changes of them.
use Rattle.std.proofs.Common.{◌≡◌, ◌∙◌, ◌+◌, ◌-◌, ◌*◌, ◌^◌, ◌<◌, ◌≤◌, ◌∷◌, ◌==◌, [], ℕ, List, Bool, true, false, length, refl, sym, ap, arith, inl, inr, if◌then◌else◌, get_or, set, take, drop, subst}
use Rattle.std.specs.List.{All, AllByRecursion, AllPairs, filter, insert, sum_by}
use Rattle.std.proofs.lemmas.Bool.{cases_eq, cases_lt}
use Rattle.std.proofs.lemmas.Bool.Decides.{nat_tests}
use Rattle.std.proofs.lemmas.List.{get_or-set_same, get_or-set_other, get_or_default, length-set}
use Rattle.std.proofs.lemmas.List.Elements.{All-set, All-append, All-take, All-drop, All-cons, recursion_from_All}
use Rattle.std.proofs.lemmas.List.Sums.{sum_by-cons, sum_by-set, sum_by-insert, sum_by_more_le, sum_by-take-le}
use Rattle.hx_base.proofs.Ascending.{IsIndexFor, ascends-insert}
use Rattle.hx_hist.specs.Histograms.{Adds, IsHistogram, count_at, total_of}
use Rattle.hx_hist.specs.declared.hist.Pair.{Pair}

-- what the pairs of a histogram ascend by
abbrev pub pixel_key : Pair → ℕ
pixel_key pair = pair.pixel

-- a sum over what a test keeps
kept : {X : Type 0} (f : X → ℕ) (x : X) (ys : List X) (b : Bool) → sum_by f (if b then x ∷ ys else ys) ≡ (if b then f x else 0) + sum_by f ys
kept f x ys true = sum_by-cons f x ys
kept f x ys false = omega arith

pub sum_by-filter : {X : Type 0} (f : X → ℕ) (test : X → Bool) (xs : List X) → sum_by f (filter test xs) ≡ sum_by (λ x. if test x then f x else 0) xs
sum_by-filter f test [] = refl
sum_by-filter f test (x ∷ xs) =
    kept f x (filter test xs) (test x) ∙ ap (λ n. (if test x then f x else 0) + n) (sum_by-filter f test xs) ∙ sym (sum_by-cons (λ y. if test y then f y else 0) x xs)

none_pass : {X : Type 0} (test : X → Bool) (xs : List X) → AllByRecursion (λ x. test x ≡ false) xs → filter test xs ≡ []
none_pass test [] all = refl
none_pass test (x ∷ xs) all = rw all.0 (none_pass test xs all.1)

all_pass : {X : Type 0} (test : X → Bool) (xs : List X) → AllByRecursion (λ x. test x ≡ true) xs → filter test xs ≡ xs
all_pass test [] all = refl
all_pass test (x ∷ xs) all = rw all.0 (ap (λ ys. x ∷ ys) (all_pass test xs all.1))

-- a filter of what all fails the test, or passes it
pub filter_none : {X : Type 0} (test : X → Bool) (xs : List X) → All (λ x. test x ≡ false) xs → filter test xs ≡ []
filter_none test xs all = none_pass test xs (recursion_from_All (λ x. test x ≡ false) xs all)

pub filter_all : {X : Type 0} (test : X → Bool) (xs : List X) → All (λ x. test x ≡ true) xs → filter test xs ≡ xs
filter_all test xs all = all_pass test xs (recursion_from_All (λ x. test x ≡ true) xs all)

-- a filter goes by what its test says
pub same_filter : {X : Type 0} (p q : X → Bool) (xs : List X) → ((x : X) → p x ≡ q x) → filter p xs ≡ filter q xs
same_filter p q [] h = refl
same_filter p q (x ∷ xs) h = rw (h x, same_filter p q xs h) refl

-- what a pair adds to the count of a pixel
abbrev pub share : ℕ → Pair → ℕ
share p pair = if pair.pixel == p then pair.count else 0

pub count_at_is : (p : ℕ) (xs : List Pair) → count_at p xs ≡ sum_by (share p) xs
count_at_is p xs = sum_by-filter (λ pair. pair.count) (λ pair. pair.pixel == p) xs

same_tests : (a b n : ℕ) → (if a == b then n else 0) ≡ (if b == a then n else 0)
same_tests a b n = grind (arith, nat_tests)

more_share : (p pixel m n : ℕ) → (if pixel == p then m + n else 0) ≡ (if pixel == p then m else 0) + (if p == pixel then n else 0)
more_share p pixel m n = grind (arith, nat_tests)

-- a pixel's pair counts more
abbrev more_of : Pair → ℕ → Pair
more_of pair count = record { pixel = pair.pixel; count = pair.count + count }

bump_counts : (count : ℕ) (xs : List Pair) (i : ℕ) (d : Pair) → i < length xs → (p : ℕ) → count_at p (set xs i (more_of (get_or xs i d) count)) ≡ count_at p xs + (if p == (get_or xs i d).pixel then count else 0)
bump_counts count xs i d within p =
    let old = count_at_is p xs in
    let new = count_at_is p (set xs i (more_of (get_or xs i d) count)) in
    let sums = sum_by-set (share p) xs i (more_of (get_or xs i d) count) d within in
    let step = more_share p (get_or xs i d).pixel (get_or xs i d).count count in
    omega (arith, old, new, sums, step)

bump_total : (count : ℕ) (xs : List Pair) (i : ℕ) (d : Pair) → i < length xs → total_of (set xs i (more_of (get_or xs i d) count)) ≡ total_of xs + count
bump_total count xs i d within =
    let sums = sum_by-set (λ (pair : Pair). pair.count) xs i (more_of (get_or xs i d) count) d within in
    omega (arith, sums)

-- an edit that keeps each pixel keeps the order
same_pixel : (count : ℕ) (xs : List Pair) (i : ℕ) (d : Pair) (k : ℕ) (e : Pair) → i < length xs → (get_or (set xs i (more_of (get_or xs i d) count)) k e).pixel ≡ (get_or xs k e).pixel
same_pixel count xs i d k e within =
    elim (cases_eq k i) [
      | inl h ↦ rw (h, get_or-set_same xs i (more_of (get_or xs i d) count) e within, get_or_default xs i d e within) refl
      | inr h ↦ rw (get_or-set_other xs i k (more_of (get_or xs i d) count) e h) refl
    ]

bump_histogram : (count : ℕ) (xs : List Pair) (i : ℕ) (d : Pair) → i < length xs → (order : ℕ) → IsHistogram order xs → IsHistogram order (set xs i (more_of (get_or xs i d) count))
bump_histogram count xs i d within order h = record {
  ascending = λ a b e lo hi. rw (same_pixel count xs i d a e within, same_pixel count xs i d b e within) (h.ascending a b e lo (simp length-set at hi));
  counted = All-set (λ pair. 0 < pair.count) xs i (more_of (get_or xs i d) count) (omega (arith, h.counted i d within)) h.counted;
  range = All-set (λ pair. pair.pixel < 12 * 4 ^ order) xs i (more_of (get_or xs i d) count) (h.range i d within) h.range;
}

pub adds_bump : (count : ℕ) (xs : List Pair) (i : ℕ) (d : Pair) → i < length xs → Adds (get_or xs i d).pixel count xs (set xs i (more_of (get_or xs i d) count))
adds_bump count xs i d within = record {
  counts = bump_counts count xs i d within;
  total = bump_total count xs i d within;
  histogram = λ order below h. bump_histogram count xs i d within order h;
}

-- a pair for a pixel that had none
insert_counts : (pixel count : ℕ) (xs : List Pair) (i p : ℕ) → count_at p (insert xs i (record { pixel = pixel; count = count })) ≡ count_at p xs + (if p == pixel then count else 0)
insert_counts pixel count xs i p =
    let old = count_at_is p xs in
    let new = count_at_is p (insert xs i (record { pixel = pixel; count = count })) in
    let sums = sum_by-insert (share p) xs i (record { pixel = pixel; count = count }) in
    let step = same_tests pixel p count in
    omega (arith, old, new, sums, step)

All-insert : {X : Type 0} (P : X → Type 0) (xs : List X) (i : ℕ) (y : X) → P y → All P xs → All P (insert xs i y)
All-insert P xs i y here all = All-append P (take i xs) (y ∷ drop i xs) (All-take P i xs all) (All-cons P y (drop i xs) here (All-drop P i xs all))

insert_histogram : (y : Pair) (xs : List Pair) (i order : ℕ) → 0 < y.count → IsIndexFor pixel_key y.pixel i xs → y.pixel < 12 * 4 ^ order → IsHistogram order xs → IsHistogram order (insert xs i y)
insert_histogram y xs i order some here below h = record {
  ascending = ascends-insert pixel_key y i xs here h.ascending;
  counted = All-insert (λ pair. 0 < pair.count) xs i y some h.counted;
  range = All-insert (λ pair. pair.pixel < 12 * 4 ^ order) xs i y below h.range;
}

pub adds_insert : (pixel count : ℕ) (xs : List Pair) (i : ℕ) → 0 < count → IsIndexFor pixel_key pixel i xs → Adds pixel count xs (insert xs i (record { pixel = pixel; count = count }))
adds_insert pixel count xs i some here = record {
  counts = insert_counts pixel count xs i;
  total = sum_by-insert (λ (pair : Pair). pair.count) xs i (record { pixel = pixel; count = count });
  histogram = λ order below h. insert_histogram (record { pixel = pixel; count = count }) xs i order some here below h;
}

-- before the last pair
pub below_last : (xs : List Pair) (last : Pair) (pixel : ℕ) → AllPairs (λ a b. a.pixel < b.pixel) xs → last ≡ get_or xs (length xs - 1) last → last.pixel ≤ pixel → (k : ℕ) (d : Pair) → k < length xs - 1 → (get_or xs k d).pixel < pixel
below_last xs last pixel up at le k d lt =
    let far = up k (length xs - 1) d lt (omega arith) in
    let one = get_or_default xs (length xs - 1) d last (omega arith) in
    let e : (get_or xs (length xs - 1) d).pixel ≡ last.pixel = ap (λ (pair : Pair). pair.pixel) (one ∙ sym at) in
    omega (arith, far, e)

pub below_after_last : (xs : List Pair) (last : Pair) (pixel : ℕ) → AllPairs (λ a b. a.pixel < b.pixel) xs → last ≡ get_or xs (length xs - 1) last → last.pixel < pixel → (k : ℕ) (d : Pair) → k < length xs → (get_or xs k d).pixel < pixel
below_after_last xs last pixel up at lt k d within =
    elim (cases_lt k (length xs - 1)) [
      | inl h ↦ below_last xs last pixel up at (omega arith) k d h
      | inr h ↦
          let same : k ≡ length xs - 1 = omega arith in
          let one = get_or_default xs (length xs - 1) d last (omega arith) in
          let e : (get_or xs k d).pixel ≡ last.pixel = rw same (ap (λ (pair : Pair). pair.pixel) (one ∙ sym at)) in
          omega (arith, e)
    ]

-- as the code reads the pair, first for its pixel and then for its count
pub adds_read : (pixel count : ℕ) (xs : List Pair) (i : ℕ) (x y : Pair) → i < length xs → x ≡ get_or xs i x → y ≡ get_or xs i y → y.pixel ≡ pixel → Adds pixel count xs (set xs i (more_of x count))
adds_read pixel count xs i x y within at_x at_y e =
    let same : x.pixel ≡ pixel = ap (λ (pair : Pair). pair.pixel) (at_x ∙ get_or_default xs i x y within ∙ sym at_y) ∙ e in
    let here = subst (λ (z : Pair). Adds z.pixel count xs (set xs i (more_of z count))) (sym at_x) (adds_bump count xs i x within) in
    subst (λ (p : ℕ). Adds p count xs (set xs i (more_of x count))) same here
