-- The lines of a histogram's pairs are the lines of all pixels.
use Rattle.std.proofs.Common.{◌≡◌, ◌∙◌, ◌+◌, ◌*◌, ◌^◌, ◌<◌, ◌==◌, ◌∷◌, ◌++◌, [], ℕ, zero, suc, List, Bool, true, false, length, sym, ap, arith, refl, inl, inr, if◌then◌else◌, nat_lt, zero-add, append_assoc, drop, set}
use Rattle.std.specs.List.{AllPairs, AllByRecursion, filter, flat_map, sum_by}
use Rattle.std.proofs.lemmas.Bool.{cases_order, eq-eqb, ne_eqb, lt-ltb, le-ltb}
use Rattle.std.proofs.lemmas.List.{append-nil, drop-set}
use Rattle.std.proofs.lemmas.List.Concat.{flat_map-append}
use Rattle.std.proofs.lemmas.List.Elements.{recursion_from_All}
use Rattle.hx_base.specs.declared.row.Row.{Row}
use Rattle.hx_hist.specs.Histograms.{IsHistogram, count_at}
use Rattle.hx_base.specs.Pixels.{count_in}
use Rattle.hx_cli.specs.Histograms.{line_of, pixel_line, numbers_below, histogram_text}
use Rattle.hx_hist.specs.declared.hist.Pair.{Pair}
use Rattle.hx_hist.proofs.Pairs.{filter_none, filter_all}

-- all pixels of a list are above one
abbrev Above : ℕ → List Pair → Type 0
Above n pairs = AllByRecursion (λ pair. n < pair.pixel) pairs

-- ascending, with counts above 0, by recursion
abbrev Rises : List Pair → Type 0
Rises [] = Unit {0}
Rises (x ∷ xs) = Above x.pixel xs × Rises xs

rises_from : (xs : List Pair) → AllPairs (λ a b. a.pixel < b.pixel) xs → Rises xs
rises_from [] up = tt
rises_from (x ∷ xs) up =
    (recursion_from_All (λ pair. x.pixel < pair.pixel) xs (λ k d within. up 0 (suc k) d (omega arith) (omega arith)), rises_from xs (λ i j d lo hi. up (suc i) (suc j) d (omega arith) (omega arith)))

none : (test : Pair → Bool) (n : ℕ) → ((y : Pair) → n < y.pixel → test y ≡ false) → (ys : List Pair) → Above n ys → filter test ys ≡ []
none test n fails [] above = refl
none test n fails (y ∷ ys) above = rw (fails y above.0) (none test n fails ys above.1)

abbrev below : ℕ → Pair → Bool
below n pair = nat_lt pair.pixel n

abbrev is_at : ℕ → Pair → Bool
is_at n pair = pair.pixel == n

-- the pairs below n + 1 are those below n, and that of n
split : (n : ℕ) (xs : List Pair) → Rises xs → filter (below (suc n)) xs ≡ filter (below n) xs ++ filter (is_at n) xs
split n [] up = refl
split n (x ∷ xs) up =
    elim (cases_order x.pixel n) [
      | inl same ↦
          let above : Above n xs = rw same at up.0 in
          let a : nat_lt x.pixel (suc n) ≡ true = lt-ltb x.pixel (suc n) (omega arith) in
          let b : nat_lt x.pixel n ≡ false = le-ltb x.pixel n (omega arith) in
          let e : (x.pixel == n) ≡ true = eq-eqb x.pixel n same in
          rw (a, b, e, none (below (suc n)) n (λ y h. le-ltb y.pixel (suc n) (omega arith)) xs above, none (below n) n (λ y h. le-ltb y.pixel n (omega arith)) xs above, none (is_at n) n (λ y h. ne_eqb y.pixel n (λ e. omega arith)) xs above) refl
      | inr (inl less) ↦
          let a : nat_lt x.pixel (suc n) ≡ true = lt-ltb x.pixel (suc n) (omega arith) in
          let b : nat_lt x.pixel n ≡ true = lt-ltb x.pixel n less in
          let e : (x.pixel == n) ≡ false = ne_eqb x.pixel n (λ e. omega arith) in
          rw (a, b, e) (ap (λ ys. x ∷ ys) (split n xs up.1))
      | inr (inr more) ↦
          let a : nat_lt x.pixel (suc n) ≡ false = le-ltb x.pixel (suc n) (omega arith) in
          let b : nat_lt x.pixel n ≡ false = le-ltb x.pixel n (omega arith) in
          let e : (x.pixel == n) ≡ false = ne_eqb x.pixel n (λ e. omega arith) in
          rw (a, b, e) (split n xs up.1)
    ]

abbrev line : Pair → List ℕ
line pair = line_of pair.pixel pair.count

-- the line of a count, if it is not 0
abbrev text_of : ℕ → ℕ → List ℕ
text_of pixel count = if count == 0 then [] else line_of pixel count

one_line : (n : ℕ) (x : Pair) → x.pixel ≡ n → 0 < x.count → line x ++ [] ≡ text_of n (0 + x.count)
one_line n x same some =
    let z : (x.count == 0) ≡ false = ne_eqb x.count 0 (λ e. omega arith) in
    rw (zero-add x.count, z, append-nil (line x), same) refl

-- a pixel has one pair at most
at_one : (n : ℕ) (xs : List Pair) → Rises xs → AllByRecursion (λ pair. 0 < pair.count) xs → flat_map line (filter (is_at n) xs) ≡ text_of n (sum_by (λ pair. pair.count) (filter (is_at n) xs))
at_one n [] up some = refl
at_one n (x ∷ xs) up some =
    elim (cases_order x.pixel n) [
      | inl same ↦
          let above : Above n xs = rw same at up.0 in
          let e : (x.pixel == n) ≡ true = eq-eqb x.pixel n same in
          rw (e, none (is_at n) n (λ y h. ne_eqb y.pixel n (λ e. omega arith)) xs above) (one_line n x same some.0)
      | inr off ↦
          let e : (x.pixel == n) ≡ false = ne_eqb x.pixel n (λ e. omega arith) in
          rw e (at_one n xs up.1 some.1)
    ]

flat_map_same : {X A : Type 0} (f g : X → List A) → ((x : X) → f x ≡ g x) → (xs : List X) → flat_map f xs ≡ flat_map g xs
flat_map_same f g same [] = refl
flat_map_same f g same (x ∷ xs) = rw (same x, flat_map_same f g same xs) refl

by_pixels : (xs : List Pair) → Rises xs → AllByRecursion (λ pair. 0 < pair.count) xs → (n : ℕ) → flat_map line (filter (below n) xs) ≡ flat_map (λ p. text_of p (count_at p xs)) (numbers_below n)
unfolding numbers_below
by_pixels xs up some zero = ap (flat_map line) (filter_none (below 0) xs (λ k d within. le-ltb _ 0 (omega arith)))
by_pixels xs up some (suc n) =
    rw (split n xs up, flat_map-append line (filter (below n) xs) (filter (is_at n) xs), by_pixels xs up some n, at_one n xs up some)
    (sym (flat_map-append (λ p. text_of p (count_at p xs)) (numbers_below n) (n ∷ []) ∙ ap (λ t. flat_map (λ p. text_of p (count_at p xs)) (numbers_below n) ++ t) (append-nil (text_of n (count_at n xs)))))

lines-of-order : (order : ℕ) (rows : List Row) (pairs : List Pair) → IsHistogram order pairs → ((p : ℕ) → count_at p pairs ≡ count_in (record { order = order; number = p }) rows) → flat_map (λ pair. line_of pair.pixel pair.count) pairs ≡ histogram_text order rows
unfolding histogram_text
lines-of-order order rows pairs h counts =
    let n = 12 * 4 ^ order in
    let whole : filter (below n) pairs ≡ pairs = filter_all (below n) pairs (λ k d within. lt-ltb _ n (h.range k d within)) in
    ap (flat_map line) (sym whole) ∙ by_pixels pairs (rises_from pairs h.ascending) (recursion_from_All (λ pair. 0 < pair.count) pairs h.counted) n
    ∙ flat_map_same (λ p. text_of p (count_at p pairs)) (λ p. pixel_line rows (record { order = order; number = p })) (λ p. ap (text_of p) (counts p)) (numbers_below n)

-- the text of a histogram that has the counts of rows
pub lines_are : (order same : ℕ) (rows : List Row) (pairs : List Pair) → same ≡ order → IsHistogram same pairs → ((p : ℕ) → count_at p pairs ≡ count_in (record { order = order; number = p }) rows)
    → flat_map (λ pair. line_of pair.pixel pair.count) pairs ≡ histogram_text order rows
lines_are order same rows pairs is h counts = lines-of-order order rows pairs (rw is at h) counts

-- a line that is written from its end: the count before the newline, a comma before it, and the pixel before that
pub line_written : (pixel count : List ℕ) (first second : List ℕ) (comma start : ℕ) → comma < length first → drop (comma + 1) first ≡ count ++ 10 ∷ [] → drop start second ≡ pixel ++ drop comma (set first comma 44)
    → drop start second ≡ pixel ++ 44 ∷ [] ++ count ++ 10 ∷ []
line_written pixel count first second comma start within tail whole = whole ∙ rw (drop-set first comma 44 within, tail) (simp append_assoc)
