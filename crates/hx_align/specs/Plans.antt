-- Plans: the partitions of counted rows, and what an alignment answers.
use Rattle.std.specs.Prelude.{◌≡◌, ◌<◌, ◌≤◌, ◌++◌, ⊤, ℕ, List, All, Result, Ok, Err, length, map}
use Rattle.hx_base.specs.declared.pixel.Pixel.{Pixel}
use Rattle.hx_base.specs.Limits.{highest_order, most_in_partition, most_partitions}
use Rattle.hx_base.specs.Partitions.{ArePartitions, IsFirstOverfull, NothingOverfull}
use Rattle.hx_base.specs.Pixels.{AreDisjointInOrder}
use Rattle.hx_hist.specs.Histograms.{Histogram, total_in}
use Rattle.hx_align.specs.declared.plan.PlanRow.{PlanRow}
use Rattle.hx_align.specs.declared.refusal.AlignRefusal.{AlignRefusal}
use Rattle.hx_align.specs.declared.refusal.AlignRefusal.TheVariants as refusal

-- how many rows of a histogram each pixel contains
abbrev pub totals_of : Histogram → Pixel → ℕ
totals_of hist pixel = total_in pixel hist.order hist.pairs

abbrev pub pixels_of : List PlanRow → List Pixel
pixels_of rows = map (λ row. row.pixel) rows

-- all partitions, each with its count
pub record IsPlanOf (count : Pixel → ℕ) (lowest highest threshold : ℕ) (rows : List PlanRow) : Type 0 where
  pub partitions : ArePartitions count lowest highest threshold (pixels_of rows)
  pub counts : All (λ row. row.count ≡ count row.pixel) rows

-- the plan of some counts is put behind the rows of a list
pub record AppendsPlan (count : Pixel → ℕ) (lowest highest threshold : ℕ) (old new : List PlanRow) : Type 0 where
  pub more : List PlanRow
  pub plan : IsPlanOf count lowest highest threshold more
  pub appended : new ≡ old ++ more

-- there are so many partitions
pub record HasPartitions (count : Pixel → ℕ) (lowest highest threshold found : ℕ) : Type 0 where
  pub pixels : List Pixel
  pub partitions : ArePartitions count lowest highest threshold pixels
  pub number : length pixels ≡ found

-- what each row of a plan keeps: its pixel's order and its count lie within their limits
pub record IsPlanRow (row : PlanRow) : Type 0 where
  pub order : row.pixel.order ≤ highest_order
  pub least : 1 ≤ row.count
  pub most : row.count ≤ most_in_partition

-- what a plan keeps, whatever it was made of
pub record IsPlan (rows : List PlanRow) : Type 0 where
  pub most : length rows ≤ most_partitions
  pub disjoint : AreDisjointInOrder (pixels_of rows)
  pub each : All IsPlanRow rows

-- a plan's pixels are kept beside its rows
pub record AreKept (rows : List PlanRow) (pixels : List Pixel) : Type 0 where
  pub plan : IsPlan rows
  pub shown : pixels ≡ pixels_of rows

-- The plan is all partitions with their counts, where no pixel is overfull and there are at most so many partitions as a catalogue may have.
-- Else the first overfull pixel is named with its count; or, where none is, how many partitions there are.
-- Only want of memory is free to come in place of each of these.
abbrev pub IsAligned : (Pixel → ℕ) → ℕ → ℕ → ℕ → Result (List PlanRow) AlignRefusal → Type 0
IsAligned count lowest highest threshold (Ok rows) = NothingOverfull count highest threshold × IsPlanOf count lowest highest threshold rows × (length rows ≤ most_partitions)
IsAligned count lowest highest threshold (Err (refusal.Overfull pixel found)) = IsFirstOverfull count highest threshold pixel × (found ≡ count (record { order = highest; number = pixel }))
IsAligned count lowest highest threshold (Err (refusal.TooMany found)) = NothingOverfull count highest threshold × HasPartitions count lowest highest threshold found × (most_partitions < found)
IsAligned count lowest highest threshold (Err refusal.Memory) = ⊤
