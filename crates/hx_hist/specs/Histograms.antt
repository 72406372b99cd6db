-- Histograms: pixels of one order with their counts.
use Rattle.std.specs.Prelude.{◌≡◌, ◌==◌, ◌+◌, ◌-◌, ◌*◌, ◌/◌, ◌^◌, ◌<◌, ◌≤◌, ℕ, if◌then◌else◌, List, All, AllPairs, filter, sum_by}
use Rattle.hx_base.specs.declared.pixel.Pixel.{Pixel}
use Rattle.hx_hist.specs.declared.hist.Pair.{Pair}

-- the count of a pixel, 0 where there is none
abbrev pub count_at : ℕ → List Pair → ℕ
count_at pixel pairs = sum_by (λ pair. pair.count) (filter (λ pair. pair.pixel == pixel) pairs)

abbrev pub total_of : List Pair → ℕ
total_of pairs = sum_by (λ pair. pair.count) pairs

-- the sum of the counts of the pairs, of an order, that lie in a pixel
abbrev pub total_in : Pixel → ℕ → List Pair → ℕ
total_in pixel order pairs = sum_by (λ pair. pair.count) (filter (λ pair. pair.pixel / 4 ^ (order - pixel.order) == pixel.number) pairs)

-- the counts of an order's pixels, ascending by pixel, all above 0
pub record IsHistogram (order : ℕ) (pairs : List Pair) : Type 0 where
  pub ascending : AllPairs (λ a b. a.pixel < b.pixel) pairs
  pub counted : All (λ pair. 0 < pair.count) pairs
  pub range : All (λ pair. pair.pixel < 12 * 4 ^ order) pairs

-- what a histogram keeps: an order that there is, and a total that fits 64 bits
pub record IsKept (order : ℕ) (pairs : List Pair) : Type 0 where
  pub order_range : order ≤ 29
  pub histogram : IsHistogram order pairs
  pub total : total_of pairs < 2 ^ 64

-- rows of a pixel are counted
pub record Adds (pixel count : ℕ) (old new : List Pair) : Type 0 where
  pub counts : (p : ℕ) → count_at p new ≡ count_at p old + (if p == pixel then count else 0)
  pub total : total_of new ≡ total_of old + count
  pub histogram : (order : ℕ) → pixel < 12 * 4 ^ order → IsHistogram order old → IsHistogram order new

pub record Histogram : Type 0 where
  pub order : ℕ
  pub pairs : List Pair
