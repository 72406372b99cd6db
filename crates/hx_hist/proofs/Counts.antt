-- What the pairs of a histogram say of its counts.
use Rattle.std.proofs.Common.{◌≡◌, ◌≢◌, ◌∙◌, ◌+◌, ◌<◌, ◌≤◌, ◌⊎◌, ◌∷◌, ◌++◌, ◌==◌, [], ℕ, List, Bool, true, suc, length, min, refl, sym, ap, arith, inl, inr, get_or, take, drop, subst}
use Rattle.std.specs.List.{All, AllPairs, AllWithin, Contains, filter, sum_by}
use Rattle.std.proofs.lemmas.Bool.{cases_Bool, cases_eq, cases_lt, eq-eqb, ne_eqb}
use Rattle.std.proofs.lemmas.Bool.Decides.{Decides-eqb}
use Rattle.std.proofs.lemmas.List.{drop_more, get_or-take, get_or-drop, get_or_default, length-take, length-drop, take-append-drop}
use Rattle.std.proofs.lemmas.List.Elements.{filter-append}
use Rattle.std.proofs.lemmas.List.Sums.{sum_by-append, sum_by-cons}
use Rattle.hx_base.proofs.Ascending.{strictly_above}
use Rattle.hx_base.proofs.Partitions.{same_members}
use Rattle.hx_hist.specs.Histograms.{IsHistogram, count_at}
use Rattle.hx_hist.specs.Differences.{IsFirstDifference, IsLeastFrom, StandsAt}
use Rattle.hx_hist.specs.declared.hist.Pair.{Pair}
use Rattle.hx_hist.proofs.Pairs.{filter_none, pixel_key}

abbrev count_of : Pair → ℕ
count_of pair = pair.count

-- where there is a sum, there is a pair
pub found : (test : Pair → Bool) (xs : List Pair) → 1 ≤ sum_by count_of (filter test xs) → (k : ℕ) × (k < length xs) × ((d : Pair) → test (get_or xs k d) ≡ true)
found test [] some = absurd (omega arith)
found test (x ∷ xs) some =
    elim (cases_Bool (test x)) [
      | inl is ↦ (0, omega arith, λ d. is)
      | inr not ↦ let rest = found test xs (rw not at some) in (suc rest.0, omega (arith, rest.1), rest.2)
    ]

-- a pixel that no pair has counts nothing
pub count_at_none : (p : ℕ) (xs : List Pair) → All (λ pair. pair.pixel ≢ p) xs → count_at p xs ≡ 0
count_at_none p xs none = ap (sum_by count_of) (filter_none (λ (pair : Pair). pair.pixel == p) xs (λ k d within. ne_eqb (get_or xs k d).pixel p (none k d within)))

pub count_at-append : (p : ℕ) (xs ys : List Pair) → count_at p (xs ++ ys) ≡ count_at p xs + count_at p ys
count_at-append p xs ys =
    let test = λ (pair : Pair). pair.pixel == p in
    ap (sum_by count_of) (filter-append test xs ys) ∙ sum_by-append count_of (filter test xs) (filter test ys)

parts : (p i : ℕ) (xs : List Pair) → count_at p xs ≡ count_at p (take i xs) + count_at p (drop i xs)
parts p i xs = ap (count_at p) (sym (take-append-drop i xs)) ∙ count_at-append p (take i xs) (drop i xs)

-- the first pair from an index on has the count of its pixel
pub count_from : (pixel i : ℕ) (xs : List Pair) (d : Pair) → AllPairs (λ a b. a.pixel < b.pixel) xs → i < length xs → (get_or xs i d).pixel ≡ pixel → count_at pixel (drop i xs) ≡ (get_or xs i d).count
count_from pixel i xs d up within is =
    let rest = count_at_none pixel (drop (i + 1) xs) (λ k e inside.
    let size = length-drop (i + 1) xs in
    let more : (get_or xs i e).pixel < (get_or xs (i + 1 + k) e).pixel = up i (i + 1 + k) e (omega arith) (omega (arith, inside)) in
    let same : (get_or xs i e).pixel ≡ pixel = ap pixel_key (get_or_default xs i e d within) ∙ is in
    rw (get_or-drop (i + 1) xs k e) (λ at. omega (arith, more, same, at))) in
    ap (count_at pixel) (drop_more xs i d within)
    ∙ rw (eq-eqb (get_or xs i d).pixel pixel is) (sum_by-cons count_of (get_or xs i d) (filter (λ pair. pair.pixel == pixel) (drop (i + 1) xs)) ∙ omega (arith, rest))

-- a pixel that is below all from an index on counts nothing there
pub none_from : (pixel i : ℕ) (xs : List Pair) → AllWithin (λ pair. pixel < pair.pixel) xs i (length xs) → count_at pixel (drop i xs) ≡ 0
none_from pixel i xs after =
    count_at_none pixel (drop i xs) (λ k d inside.
    let more = after (i + k) d (omega arith) (omega (arith, length-drop i xs, inside)) in
    rw (get_or-drop i xs k d) (λ at. omega (arith, more, at)))

none_before : (pixel i : ℕ) (xs : List Pair) → AllPairs (λ a b. a.pixel < b.pixel) xs → StandsAt pixel i xs → count_at pixel (take i xs) ≡ 0
none_before pixel i xs up here =
    count_at_none pixel (take i xs) (λ k d inside.
    let lt : k < i = omega (arith, length-take i xs, inside) in
    let less = up k i d lt here.within in
    let same = here.pixel_is d in
    rw (get_or-take i xs k d lt) (λ at. omega (arith, less, same, at)))

-- from an index on where all pixels are at one or above, the first has it or none has
pub at_or_above : (pixel i : ℕ) (xs : List Pair) → AllPairs (λ a b. a.pixel < b.pixel) xs → AllWithin (λ pair. pixel ≤ pair.pixel) xs i (length xs)
    → StandsAt pixel i xs ⊎ AllWithin (λ pair. pixel < pair.pixel) xs i (length xs)
at_or_above pixel i xs up least =
    let z : Pair = record { pixel = 0; count = 0 } in
    elim (cases_lt i (length xs)) [
      | inr past ↦ inr (λ k d lo hi. absurd (omega (arith, past)))
      | inl within ↦
          elim (cases_eq (get_or xs i z).pixel pixel) [
            | inl is ↦ inl (record { within = within; pixel_is = λ d. ap pixel_key (get_or_default xs i d z within) ∙ is })
            | inr not ↦ inr (strictly_above pixel_key pixel i xs up least (λ d inside at. not (ap pixel_key (get_or_default xs i z d within) ∙ at)))
          ]
    ]

-- what a pair read at an index says
pub stands_here : (i : ℕ) (xs : List Pair) (x : Pair) → i < length xs → ((d : Pair) → x ≡ get_or xs i d) → StandsAt x.pixel i xs
stands_here i xs x within is = record { within = within; pixel_is = λ d. ap pixel_key (sym (is d)) }

least_here : (i : ℕ) (xs : List Pair) (x : Pair) → AllPairs (λ a b. a.pixel < b.pixel) xs → ((d : Pair) → x ≡ get_or xs i d) → AllWithin (λ pair. x.pixel ≤ pair.pixel) xs i (length xs)
least_here i xs x up is = λ k d lo hi.
    let same : x.pixel ≡ (get_or xs i d).pixel = ap pixel_key (is d) in
    elim (cases_eq k i) [
      | inl at ↦ rw at (omega (arith, same))
      | inr past ↦ omega (arith, same, up i k d (omega arith) hi)
    ]

nothing_from : (pixel i : ℕ) (xs : List Pair) → length xs ≤ i → AllWithin (λ pair. pixel ≤ pair.pixel) xs i (length xs)
nothing_from pixel i xs past = λ k d lo hi. absurd (omega (arith, past))

pub least_of_both : (i m : ℕ) (xs ys : List Pair) (x y : Pair) → AllPairs (λ a b. a.pixel < b.pixel) xs → AllPairs (λ a b. a.pixel < b.pixel) ys → i < length xs → i < length ys
    → ((d : Pair) → x ≡ get_or xs i d) → ((d : Pair) → y ≡ get_or ys i d) → m ≡ min x.pixel y.pixel → IsLeastFrom i xs ys m
least_of_both i m xs ys x y up_x up_y in_x in_y is_x is_y least = record {
  least_kept = λ k d lo hi. omega (arith, least, least_here i xs x up_x is_x k d lo hi);
  least_found = λ k d lo hi. omega (arith, least, least_here i ys y up_y is_y k d lo hi);
  stands = elim (cases_lt y.pixel x.pixel) [
    | inl less ↦ let e : m ≡ y.pixel = omega arith in inr (rw e (stands_here i ys y in_y is_y))
    | inr more ↦ let e : m ≡ x.pixel = omega arith in inl (rw e (stands_here i xs x in_x is_x))
  ];
}

pub least_of_kept : (i : ℕ) (xs ys : List Pair) (x : Pair) → AllPairs (λ a b. a.pixel < b.pixel) xs → i < length xs → ((d : Pair) → x ≡ get_or xs i d) → length ys ≤ i → IsLeastFrom i xs ys x.pixel
least_of_kept i xs ys x up within is past = record {
  least_kept = least_here i xs x up is;
  least_found = nothing_from x.pixel i ys past;
  stands = inl (stands_here i xs x within is);
}

pub least_of_found : (i : ℕ) (xs ys : List Pair) (y : Pair) → AllPairs (λ a b. a.pixel < b.pixel) ys → i < length ys → ((d : Pair) → y ≡ get_or ys i d) → length xs ≤ i → IsLeastFrom i xs ys y.pixel
least_of_found i xs ys y up within is past = record {
  least_kept = nothing_from y.pixel i xs past;
  least_found = least_here i ys y up is;
  stands = inr (stands_here i ys y within is);
}

pub count_there : (pixel i : ℕ) (xs : List Pair) (x : Pair) → AllPairs (λ a b. a.pixel < b.pixel) xs → i < length xs → ((d : Pair) → x ≡ get_or xs i d) → x.pixel ≡ pixel → x.count ≡ count_at pixel (drop i xs)
count_there pixel i xs x up within is at = ap count_of (is x) ∙ sym (count_from pixel i xs x up within (ap pixel_key (sym (is x)) ∙ at))

pub count_missing : (pixel i : ℕ) (xs : List Pair) → AllPairs (λ a b. a.pixel < b.pixel) xs → AllWithin (λ pair. pixel ≤ pair.pixel) xs i (length xs) → ((d : Pair) → i < length xs → (get_or xs i d).pixel ≢ pixel)
    → 0 ≡ count_at pixel (drop i xs)
count_missing pixel i xs up least other = sym (none_from pixel i xs (strictly_above pixel_key pixel i xs up least other))

same_pair : (a b : Pair) → a.pixel ≡ b.pixel → a.count ≡ b.count → a ≡ b
same_pair a b e f =
    let pixels : a ≡ record { pixel = b.pixel; count = a.count } = ap (λ (p : ℕ). let pair : Pair = record { pixel = p; count = a.count } in pair) e in
    pixels ∙ ap (λ (n : ℕ). let pair : Pair = record { pixel = b.pixel; count = n } in pair) f

-- a pair has the count of its pixel
pub count_at_own : (xs : List Pair) (k : ℕ) (d : Pair) → AllPairs (λ a b. a.pixel < b.pixel) xs → k < length xs → count_at (get_or xs k d).pixel xs ≡ (get_or xs k d).count
count_at_own xs k d up within =
    let pixel = (get_or xs k d).pixel in
    let front = none_before pixel k xs up (record { within = within; pixel_is = λ e. ap pixel_key (get_or_default xs k e d within) }) in
    omega (arith, parts pixel k xs, front, count_from pixel k xs d up within refl)

-- equal counts, equal pairs
module _ (order : ℕ) where
  among : (xs ys : List Pair) → IsHistogram order xs → IsHistogram order ys → ((p : ℕ) → count_at p xs ≡ count_at p ys) → (z : Pair) → Contains xs z → Contains ys z
  among xs ys hx hy same z member =
      let k = member.0 in
      let own : count_at z.pixel xs ≡ z.count = subst (λ (w : Pair). count_at w.pixel xs ≡ w.count) member.2 (count_at_own xs k z hx.ascending member.1) in
      let some : 0 < z.count = subst (λ (w : Pair). 0 < w.count) member.2 (hx.counted k z member.1) in
      let at = found (λ (pair : Pair). pair.pixel == z.pixel) ys (omega (arith, same z.pixel, own, some)) in
      let pixels : (get_or ys at.0 z).pixel ≡ z.pixel = (Decides-eqb _ _).0 (at.2 z) in
      let other : count_at z.pixel ys ≡ (get_or ys at.0 z).count = subst (λ (p : ℕ). count_at p ys ≡ (get_or ys at.0 z).count) pixels (count_at_own ys at.0 z hy.ascending at.1) in
      (at.0, at.1, same_pair (get_or ys at.0 z) z pixels (sym other ∙ sym (same z.pixel) ∙ own))

  pub same_counts : (xs ys : List Pair) → IsHistogram order xs → IsHistogram order ys → ((p : ℕ) → count_at p xs ≡ count_at p ys) → xs ≡ ys
  same_counts xs ys hx hy same = same_members pixel_key xs ys hx.ascending hy.ascending (among xs ys hx hy same) (among ys xs hy hx (λ p. sym (same p)))

-- where the lists differ at an index, the least pixel from there on has different counts
module _ (order pixel i : ℕ) where
  differ_at : (xs ys : List Pair) → IsHistogram order xs → IsHistogram order ys → StandsAt pixel i xs → AllWithin (λ pair. pixel ≤ pair.pixel) ys i (length ys)
      → ((d : Pair) → i < length xs → i < length ys → get_or xs i d ≢ get_or ys i d) → count_at pixel (drop i xs) ≢ count_at pixel (drop i ys)
  differ_at xs ys hx hy here least next = λ same.
      let z : Pair = record { pixel = 0; count = 0 } in
      let one = count_from pixel i xs z hx.ascending here.within (here.pixel_is z) in
      elim (at_or_above pixel i ys hy.ascending least) [
        | inl there ↦
            let other = count_from pixel i ys z hy.ascending there.within (there.pixel_is z) in
            next z here.within there.within (same_pair (get_or xs i z) (get_or ys i z) (here.pixel_is z ∙ sym (there.pixel_is z)) (sym one ∙ same ∙ other))
        | inr above ↦ let none = none_from pixel i ys above in omega (arith, one, none, same, hx.counted i z here.within)
      ]

  pub first_difference : (kept found : List Pair) → IsHistogram order kept → IsHistogram order found → take i kept ≡ take i found
      → ((d : Pair) → i < length kept → i < length found → get_or kept i d ≢ get_or found i d) → IsLeastFrom i kept found pixel
      → IsFirstDifference kept found (record { pixel = pixel; kept = count_at pixel (drop i kept); found = count_at pixel (drop i found) })
  first_difference kept found hk hf same next least =
      let fronts : (p : ℕ) → count_at p (take i kept) ≡ count_at p (take i found) = λ p. ap (count_at p) same in
      let front : count_at pixel (take i kept) ≡ 0 =
      elim least.stands [
        | inl here ↦ none_before pixel i kept hk.ascending here
        | inr here ↦ fronts pixel ∙ none_before pixel i found hf.ascending here
      ] in
      record {
        kept_count = omega (arith, parts pixel i kept, front);
        found_count = omega (arith, parts pixel i found, front, fronts pixel);
        differ = elim least.stands [
          | inl here ↦ differ_at kept found hk hf here least.least_found next
          | inr here ↦ λ e. differ_at found kept hf hk here least.least_kept (λ d a b h. next d b a (sym h)) (sym e)
        ];
        first = λ p lt.
            let one = none_from p i kept (λ k d lo hi. let le = least.least_kept k d lo hi in omega (arith, le, lt)) in
            let other = none_from p i found (λ k d lo hi. let le = least.least_found k d lo hi in omega (arith, le, lt)) in
            omega (arith, parts p i kept, parts p i found, fronts p, one, other);
      }
