-- Answers on counts, and on sorted rows, as answers on rows.
use Rattle.std.proofs.Common.{◌≡◌, ◌∙◌, ◌≤◌, ℕ, List, Result, Ok, Err, sym, subst}
use Rattle.hx_align.specs.Plans.{totals_of}
use Rattle.hx_align.specs.declared.refusal.AlignRefusal.TheVariants as align_refusal
use Rattle.hx_base.specs.declared.pixel.Pixel.{Pixel}
use Rattle.hx_base.specs.declared.row.Row.{Row}
use Rattle.hx_base.specs.Rows.{sorted_rows}
use Rattle.hx_hist.specs.Histograms.{Histogram}
use Rattle.hx_spill.specs.Values.{AreCountsOf, AreSplit}
use Rattle.hx_spill.proofs.Aligned.{aligned_rows}
use Rattle.hx_work.specs.Work.{IsFirstChange, IsPlanned, IsPlannedFor, IsSplit, Work}
use Rattle.hx_work.specs.declared.refusal.WorkRefusal.TheVariants as refusal
use Rattle.hx_work.proofs.InPlace.{split_again}
use Rattle.hx_work.proofs.Sorted.{count_in_sorted, length_sorted}

pub planned_rows : (lowest highest threshold : ℕ) (rows : List Row) (hist : Histogram) (result : Work) → highest ≤ 29 → AreCountsOf highest rows hist → IsPlanned (totals_of hist) lowest highest threshold result → IsPlannedFor lowest highest threshold rows result
planned_rows lowest highest threshold rows hist (Ok bytes) within counts (plan, reads, fits, is, few) =
    let there = aligned_rows lowest highest threshold rows hist (Ok plan) within counts (fits, is, few) in
    record { plan = plan; reads = reads; value = record { fits = there.0; partitions = there.1; few = there.2 } }
planned_rows lowest highest threshold rows hist (Err refusal.Memory) within counts h = h
planned_rows lowest highest threshold rows hist (Err (refusal.Overfull pixel found)) within counts h = aligned_rows lowest highest threshold rows hist (Err (align_refusal.Overfull pixel found)) within counts h
planned_rows lowest highest threshold rows hist (Err (refusal.TooMany found)) within counts h = aligned_rows lowest highest threshold rows hist (Err (align_refusal.TooMany found)) within counts h
planned_rows lowest highest threshold rows hist (Err (refusal.Bad row why)) within counts h = h
planned_rows lowest highest threshold rows hist (Err (refusal.Changed pixel kept found)) within counts h = h

counts_again : (order : ℕ) (rows : List Row) (hist : Histogram) → AreCountsOf order (sorted_rows rows) hist → AreCountsOf order rows hist
counts_again order rows hist is = record {
  order_is = is.order_is;
  histogram = is.histogram;
  counts = λ number. is.counts number ∙ count_in_sorted (record { order = order; number = number }) rows;
  total = is.total ∙ length_sorted rows;
}

change_again : (map : Histogram) (rows : List Row) (pixel kept found : ℕ) → IsFirstChange map.order map (sorted_rows rows) pixel kept found → IsFirstChange map.order map rows pixel kept found
change_again map rows pixel kept found is = record {
  kept_count = is.kept_count;
  found_count = is.found_count ∙ count_in_sorted (record { order = map.order; number = pixel }) rows;
  differ = is.differ;
  first = λ lower lt. is.first lower lt ∙ count_in_sorted (record { order = map.order; number = lower }) rows;
}

pub split_rows : (read : Result (List Row) (ℕ × ℕ)) (rows : List Row) (map : Histogram) (parts : List Pixel) (result : Work) → read ≡ Ok rows → IsSplit (Ok (sorted_rows rows)) map parts result → IsSplit read map parts result
split_rows read rows map parts (Ok bytes) is (there, same, counts, file) =
    let rows_are : there ≡ sorted_rows rows = cc (sym same) in (
      rows,
      is,
      counts_again map.order rows map (subst (λ (rs : List Row). AreCountsOf map.order rs map) rows_are counts),
      record { placed = file.placed; reads = file.reads; value = split_again parts rows file.placed (subst (λ (rs : List Row). AreSplit parts rs file.placed) rows_are file.value) },
    )
split_rows read rows map parts (Err refusal.Memory) is h = h
split_rows read rows map parts (Err (refusal.Bad row why)) is h = cc h
split_rows read rows map parts (Err (refusal.Changed pixel kept found)) is (there, same, change) =
    let rows_are : there ≡ sorted_rows rows = cc (sym same) in
    (rows, is, change_again map rows pixel kept found (subst (λ (rs : List Row). IsFirstChange map.order map rs pixel kept found) rows_are change))
split_rows read rows map parts (Err (refusal.Overfull pixel count)) is h = h
split_rows read rows map parts (Err (refusal.TooMany found)) is h = h
