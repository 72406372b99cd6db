-- What a tally has counted, by its table and its histograms.
use Rattle.std.proofs.Common.{◌≡◌, ◌∙◌, ◌+◌, ◌*◌, ◌^◌, ◌<◌, ◌≤◌, ◌∷◌, ◌++◌, ◌==◌, [], ℕ, List, zero, suc, length, replicate, take, drop, refl, sym, ap, arith, inl, inr, get_or}
use Rattle.std.specs.List.{filter, flat_map, sum_by}
use Rattle.std.proofs.Math.ListN.{get_or-eq_default}
use Rattle.std.proofs.Math.Seq.{take-append_seam}
use Rattle.std.proofs.lemmas.Bool.{cases_lt, eq-eqb, ne_eqb}
use Rattle.std.proofs.lemmas.List.{get_or-replicate, length-replicate}
use Rattle.std.proofs.lemmas.List.Folds.{sum_by-replicate}
use Rattle.std.proofs.lemmas.List.Sums.{sum_by-append, sum_by-cons}
use Rattle.hx_hist.specs.Histograms.{Histogram, count_at, total_of}
use Rattle.hx_hist.specs.Tallies.{AreOfOrder, Counted, IsTally, count_among, pairs_of, pairs_of_table, total_among}
use Rattle.hx_hist.specs.declared.hist.Pair.{Pair}
use Rattle.hx_hist.proofs.Counts.{count_at-append}

abbrev count_of : Pair → ℕ
count_of pair = pair.count

-- a table counts at its own pixels
below_first : (first p : ℕ) (table : List ℕ) → p < first → count_at p (pairs_of_table first table) ≡ 0
unfolding pairs_of_table
below_first first p [] lt = refl
below_first first p (n ∷ ns) lt = rw (ne_eqb first p (λ e. omega arith)) (below_first (first + 1) p ns (omega arith))

in_table : (first n : ℕ) (table : List ℕ) → count_at (first + n) (pairs_of_table first table) ≡ get_or table n 0
unfolding pairs_of_table
in_table first n [] = refl
in_table first zero (c ∷ cs) =
    let here : first ≡ first + 0 = omega arith in
    rw (eq-eqb first (first + 0) here) (sum_by-cons count_of (record { pixel = first; count = c }) (filter (λ pair. pair.pixel == first + 0) (pairs_of_table (first + 1) cs)) ∙ omega (arith, below_first (first + 1) (first + 0) cs (omega arith)))
in_table first (suc n) (c ∷ cs) =
    let next : first + suc n ≡ first + 1 + n = omega arith in
    rw (ne_eqb first (first + suc n) (λ e. omega arith)) (ap (λ p. count_at p (pairs_of_table (first + 1) cs)) next ∙ in_table (first + 1) n cs)

table_total : (first : ℕ) (table : List ℕ) → total_of (pairs_of_table first table) ≡ sum_by (λ n. n) table
unfolding pairs_of_table
table_total first [] = refl
table_total first (c ∷ cs) =
    let one = sum_by-cons count_of (record { pixel = first; count = c }) (pairs_of_table (first + 1) cs) in
    let other = sum_by-cons (λ (n : ℕ). n) c cs in
    omega (arith, one, other, table_total (first + 1) cs)

-- and histograms at theirs
among : (p : ℕ) (hists : List Histogram) → count_at p (flat_map (λ hist. hist.pairs) hists) ≡ count_among p hists
among p [] = refl
among p (h ∷ hs) =
    let one = count_at-append p h.pairs (flat_map (λ hist. hist.pairs) hs) in
    let other = sum_by-cons (λ (hist : Histogram). count_at p hist.pairs) h hs in
    omega (arith, one, other, among p hs)

all_among : (hists : List Histogram) → total_of (flat_map (λ hist. hist.pairs) hists) ≡ total_among hists
all_among [] = refl
all_among (h ∷ hs) =
    let one = sum_by-append count_of h.pairs (flat_map (λ hist. hist.pairs) hs) in
    let other = sum_by-cons (λ (hist : Histogram). total_of hist.pairs) h hs in
    omega (arith, one, other, all_among hs)

pub count_at-pairs_of : (p : ℕ) (table : List ℕ) (hists : List Histogram) → count_at p (pairs_of table hists) ≡ get_or table p 0 + count_among p hists
unfolding pairs_of
count_at-pairs_of p table hists =
    let here : p ≡ 0 + p = omega arith in
    let at : count_at p (pairs_of_table 0 table) ≡ get_or table p 0 = ap (λ (q : ℕ). count_at q (pairs_of_table 0 table)) here ∙ in_table 0 p table in
    omega (arith, count_at-append p (pairs_of_table 0 table) (flat_map (λ hist. hist.pairs) hists), at, among p hists)

pub total_of-pairs_of : (table : List ℕ) (hists : List Histogram) → total_of (pairs_of table hists) ≡ sum_by (λ n. n) table + total_among hists
unfolding pairs_of
total_of-pairs_of table hists =
    omega (arith, sum_by-append count_of (pairs_of_table 0 table) (flat_map (λ hist. hist.pairs) hists), table_total 0 table, all_among hists)

-- a tally of no rows
pub no_counts : (n p : ℕ) → count_at p (pairs_of (replicate n 0) []) ≡ 0
no_counts n p =
    let zeros : List ℕ = replicate n 0 in
    let none : get_or zeros p 0 ≡ 0 = elim (cases_lt p n) [
      | inl lt ↦ get_or-replicate n p 0 0 lt
      | inr past ↦ get_or-eq_default zeros 0 {n = p} (omega (arith, past, length-replicate {A = ℕ} n 0))
    ] in
    omega (arith, count_at-pairs_of p zeros [], none)

pub no_total : (n : ℕ) → total_of (pairs_of (replicate n 0) []) ≡ 0
no_total n = omega (arith, total_of-pairs_of (replicate n 0) [], sum_by-replicate (λ (m : ℕ). m) n 0)

pub tally_of_none : (order n : ℕ) → order ≤ 29 → (0 < n → n ≡ 12 * 4 ^ order) → IsTally order (replicate n 0) []
tally_of_none order n within whole =
    let size = length-replicate {A = ℕ} n 0 in
    record {
      order_range = within;
      table_whole = λ some. size ∙ whole (omega (arith, some, size));
      table_alone = λ some. refl;
      orders = λ k d inside. absurd (omega (arith, inside));
      total = omega (arith, no_total n);
    }

-- a tally without a table, and one with a table
no_table : (p : ℕ) (table : List ℕ) → length table ≡ 0 → get_or table p 0 ≡ 0
no_table p table none = get_or-eq_default table 0 {n = p} (omega (arith, none))

no_sum : (table : List ℕ) → length table ≡ 0 → sum_by (λ n. n) table ≡ 0
no_sum [] none = refl
no_sum (c ∷ cs) none = absurd (omega (arith, none))

no_hists : (f : Histogram → ℕ) (hists : List Histogram) → length hists ≡ 0 → sum_by f hists ≡ 0
no_hists f [] none = refl
no_hists f (h ∷ hs) none = absurd (omega (arith, none))

module _ (tally : Counted) (order : ℕ) (table : List ℕ) (hists : List Histogram) (view : record { order = order; pairs = pairs_of table hists } ≡ tally) where
  pub order_is : order ≡ tally.order
  order_is = ap (λ (t : Counted). t.order) view

  pub counts_are : (p : ℕ) → get_or table p 0 + count_among p hists ≡ count_at p tally.pairs
  counts_are p = sym (count_at-pairs_of p table hists) ∙ ap (λ (t : Counted). count_at p t.pairs) view

  pub total_is : sum_by (λ n. n) table + total_among hists ≡ total_of tally.pairs
  total_is = sym (total_of-pairs_of table hists) ∙ ap (λ (t : Counted). total_of t.pairs) view

  pub counts_of_hists : length table ≡ 0 → (p : ℕ) → count_among p hists ≡ count_at p tally.pairs
  counts_of_hists none p = omega (arith, counts_are p, no_table p table none)

  pub total_of_hists : length table ≡ 0 → total_among hists ≡ total_of tally.pairs
  total_of_hists none = omega (arith, total_is, no_sum table none)

  pub counts_of_table : length hists ≡ 0 → (p : ℕ) → get_or table p 0 ≡ count_at p tally.pairs
  counts_of_table none p = omega (arith, counts_are p, no_hists (λ hist. count_at p hist.pairs) hists none)

  pub total_of_table : length hists ≡ 0 → sum_by (λ n. n) table ≡ total_of tally.pairs
  total_of_table none = omega (arith, total_is, no_hists (λ hist. total_of hist.pairs) hists none)

  -- with more histograms, where there is no table
  pub more_hists : IsTally order table hists → length table ≡ 0 → (more : List Histogram) (added : ℕ) → AreOfOrder order more → total_among more ≤ total_among hists + added → total_of tally.pairs + added < 2 ^ 64 → IsTally order table more
  more_hists kept none more added orders most room = record {
    order_range = kept.order_range;
    table_whole = λ some. absurd (omega (arith, some, none));
    table_alone = λ some. absurd (omega (arith, some, none));
    orders = orders;
    total = omega (arith, total_of-pairs_of table more, total_is, most, room);
  }

  -- with greater counts in its table
  pub more_counts : IsTally order table hists → 0 < length table → (more : List ℕ) (added : ℕ) → length more ≡ length table → sum_by (λ n. n) more ≡ sum_by (λ n. n) table + added → total_of tally.pairs + added < 2 ^ 64 → IsTally order more hists
  more_counts kept some more added same sum room = record {
    order_range = kept.order_range;
    table_whole = λ any. same ∙ kept.table_whole some;
    table_alone = λ any. kept.table_alone some;
    orders = kept.orders;
    total = omega (arith, total_of-pairs_of more hists, total_is, sum, room);
  }

-- a table written through a slice of the whole
pub written_back : (n : ℕ) (new old : List ℕ) → n ≡ length old → length new ≡ length old → take n (new ++ drop (length new) old) ≡ new
written_back n new old size same =
    ap (λ (k : ℕ). take k (new ++ drop (length new) old)) (omega (arith, size, same)) ∙ take-append_seam new (drop (length new) old)
