-- What the work files of an import hold, as relations over lists of rows: how many rows each pixel contains, the partitions of rows, and
-- rows by the partitions where they go. And what it is for a file to read as such a value.
use Rattle.std.specs.Prelude.{◌≡◌, ◌+◌, ◌<◌, ◌≤◌, ℕ, List, All, IsSorted, Ok, Some, length, slice_get}
use Rattle.hx_align.specs.Plans.{IsPlanOf}
use Rattle.hx_align.specs.declared.plan.PlanRow.{PlanRow}
use Rattle.hx_base.specs.Contents.{AreMarginRows, partition_rows}
use Rattle.hx_base.specs.Limits.{most_partitions}
use Rattle.hx_base.specs.Partitions.{NothingOverfull}
use Rattle.hx_base.specs.Pixels.{count_in}
use Rattle.hx_base.specs.declared.pixel.Pixel.{Pixel}
use Rattle.hx_base.specs.declared.row.Row.{Row}
use Rattle.hx_hist.specs.Histograms.{Histogram, IsHistogram, count_at, total_of}
use Rattle.hx_hist.specs.Tallies.{count_among, total_among}
use Rattle.hx_spill.specs.Maps.{map_in}
use Rattle.hx_spill.specs.Plans.{plan_in}
use Rattle.hx_spill.specs.Splits.{placed_cmp, slice, split_in}
use Rattle.hx_spill.specs.declared.split.Placed.{Placed}

-- the counts of rows: how many of them each pixel of an order contains
pub record AreCountsOf (order : ℕ) (rows : List Row) (hist : Histogram) : Type 0 where
  pub order_is : hist.order ≡ order
  pub histogram : IsHistogram order hist.pairs
  pub counts : (number : ℕ) → count_at number hist.pairs ≡ count_in (record { order = order; number = number }) rows
  pub total : total_of hist.pairs ≡ length rows

-- one histogram counts what two count, or what all histograms of a list do
pub record IsSumOf (order : ℕ) (a b both : Histogram) : Type 0 where
  pub order_is : both.order ≡ order
  pub histogram : IsHistogram order both.pairs
  pub counts : (number : ℕ) → count_at number both.pairs ≡ count_at number a.pairs + count_at number b.pairs
  pub total : total_of both.pairs ≡ total_of a.pairs + total_of b.pairs

pub record IsSumOfAll (order : ℕ) (hists : List Histogram) (all : Histogram) : Type 0 where
  pub order_is : all.order ≡ order
  pub histogram : IsHistogram order all.pairs
  pub counts : (number : ℕ) → count_at number all.pairs ≡ count_among number hists
  pub total : total_of all.pairs ≡ total_among hists

-- the plan of rows: all their partitions, with their counts. No pixel is overfull, and they are no more than a catalogue may have
pub record IsPlanFor (lowest highest threshold : ℕ) (rows : List Row) (plan : List PlanRow) : Type 0 where
  pub fits : NothingOverfull (λ pixel. count_in pixel rows) highest threshold
  pub partitions : IsPlanOf (λ pixel. count_in pixel rows) lowest highest threshold plan
  pub few : length plan ≤ most_partitions

-- rows by the partitions of a list where they go, sorted by the partition's number and then as rows are: each partition has the rows that
-- a relation says, and no other number has any
pub record ArePlaced (parts : List Pixel) (Goes : Pixel → List Row → Type 0) (placed : List Placed) : Type 0 where
  pub in_order : IsSorted placed_cmp placed
  pub each : (part : ℕ) (pixel : Pixel) → slice_get parts part ≡ Some pixel → Goes pixel (slice part placed)
  pub no_other : All (λ p. p.part < length parts) placed

-- the rows of an input go to the partitions that contain them, each as often as the input has it
abbrev pub AreSplit : (parts : List Pixel) → (rows : List Row) → List Placed → Type 0
AreSplit parts rows placed = ArePlaced parts (λ pixel there. there ≡ partition_rows pixel rows) placed

-- the rows of a partition go to the partitions whose margins have them, each as often as the partition has it
abbrev pub AreMarginSplit : (parts : List Pixel) → (margin_order : ℕ) → (rows : List Row) → List Placed → Type 0
AreMarginSplit parts margin_order rows placed = ArePlaced parts (λ pixel margin. AreMarginRows pixel margin_order rows margin) placed

-- ---- files

-- bytes that read as the counts of rows
pub record IsMapFile (order : ℕ) (rows : List Row) (bytes : List ℕ) : Type 0 where
  pub hist : Histogram
  pub reads : map_in bytes ≡ Ok hist
  pub value : AreCountsOf order rows hist

-- as the plan of rows
pub record IsPlanFile (lowest highest threshold : ℕ) (rows : List Row) (bytes : List ℕ) : Type 0 where
  pub plan : List PlanRow
  pub reads : plan_in bytes ≡ Ok plan
  pub value : IsPlanFor lowest highest threshold rows plan

-- as an input's rows by the partitions that contain them
pub record IsSplitFile (parts : List Pixel) (rows : List Row) (bytes : List ℕ) : Type 0 where
  pub placed : List Placed
  pub reads : split_in bytes ≡ Ok placed
  pub value : AreSplit parts rows placed

-- as a partition's rows by the partitions whose margins have them
pub record IsMarginSplitFile (parts : List Pixel) (margin_order : ℕ) (rows : List Row) (bytes : List ℕ) : Type 0 where
  pub placed : List Placed
  pub reads : split_in bytes ≡ Ok placed
  pub value : AreMarginSplit parts margin_order rows placed
