-- The plan of a whole histogram.
use Rattle.std.proofs.Common.{◌≤◌, [], ℕ, List, length, sym, arith, get_or, subst}
use Rattle.std.proofs.lemmas.List.{get_or-map, length-map}
use Rattle.hx_base.specs.Limits.{highest_order, most_in_partition, most_partitions}
use Rattle.hx_base.specs.declared.pixel.Pixel.{Pixel}
use Rattle.hx_base.proofs.Partitions.{IsMonotone, partitions_disjoint}
use Rattle.hx_align.specs.declared.plan.PlanRow.{PlanRow}
use Rattle.hx_align.specs.Plans.{AppendsPlan, HasPartitions, IsPlan, IsPlanOf, pixels_of}

pub all_planned : (count : Pixel → ℕ) (lowest highest threshold : ℕ) (rows : List PlanRow) → AppendsPlan count lowest highest threshold [] rows → IsPlanOf count lowest highest threshold rows
all_planned count lowest highest threshold rows h = subst (IsPlanOf count lowest highest threshold) (sym h.appended) h.plan

pub has_partitions : (count : Pixel → ℕ) (lowest highest threshold : ℕ) (rows : List PlanRow) → IsPlanOf count lowest highest threshold rows → HasPartitions count lowest highest threshold (length rows)
has_partitions count lowest highest threshold rows h = record { pixels = pixels_of rows; partitions = h.partitions; number = length-map rows (λ (row : PlanRow). row.pixel) }

pub is_plan : (count : Pixel → ℕ) (lowest highest threshold : ℕ) (rows : List PlanRow) → IsMonotone highest count → length rows ≤ most_partitions → highest ≤ highest_order → threshold ≤ most_in_partition
    → IsPlanOf count lowest highest threshold rows → IsPlan rows
is_plan count lowest highest threshold rows grows most highest_fits threshold_fits h = record {
  most = most;
  disjoint = partitions_disjoint count lowest highest threshold grows (pixels_of rows) h.partitions;
  each = λ k d lt.
      let row = get_or rows k d in
      let part = (h.partitions.exact row.pixel).0 (k, rw length-map lt, get_or-map (λ (r : PlanRow). r.pixel) rows k d row.pixel lt) in
      let count_is = h.counts k d lt in
      record { order = omega (arith, part.not_higher, highest_fits); least = omega (arith, count_is, part.some); most = omega (arith, count_is, part.most, threshold_fits) };
}
