-- Tallies: the counts of many inputs' rows, before they are one histogram.
use Rattle.std.specs.Prelude.{◌≡◌, ◌+◌, ◌*◌, ◌^◌, ◌<◌, ◌≤◌, ◌∷◌, ◌++◌, [], ℕ, List, All, length, sum_by}
use Rattle.std.specs.List.{flat_map}
use Rattle.hx_hist.specs.declared.hist.Pair.{Pair}
use Rattle.hx_hist.specs.Histograms.{Histogram, count_at, total_of}

-- what a tally has counted: pixels of an order with counts, in which a pixel may stand more than once
pub record Counted : Type 0 where
  pub order : ℕ
  pub pairs : List Pair

-- the counts of a table with their pixels, which go up from a first one
unfoldable pub pairs_of_table : ℕ → List ℕ → List Pair
pairs_of_table first [] = []
pairs_of_table first (count ∷ counts) = record { pixel = first; count = count } ∷ pairs_of_table (first + 1) counts

-- the pairs of a table of counts and of histograms
unfoldable pub pairs_of : List ℕ → List Histogram → List Pair
pairs_of table hists = pairs_of_table 0 table ++ flat_map (λ hist. hist.pairs) hists

-- the count of a pixel in histograms together, and that of all pixels
abbrev pub count_among : ℕ → List Histogram → ℕ
count_among pixel hists = sum_by (λ hist. count_at pixel hist.pairs) hists

abbrev pub total_among : List Histogram → ℕ
total_among hists = sum_by (λ hist. total_of hist.pairs) hists

-- histograms of an order
abbrev pub AreOfOrder : ℕ → List Histogram → Type 0
AreOfOrder order hists = All (λ hist. hist.order ≡ order) hists

-- what a tally keeps: a table of all pixels of the order or none, and histograms only where there is none
pub record IsTally (order : ℕ) (table : List ℕ) (hists : List Histogram) : Type 0 where
  pub order_range : order ≤ 29
  pub table_whole : 0 < length table → length table ≡ 12 * 4 ^ order
  pub table_alone : 0 < length table → length hists ≡ 0
  pub orders : AreOfOrder order hists
  pub total : total_of (pairs_of table hists) < 2 ^ 64
