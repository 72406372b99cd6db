-- The alignment of a histogram that counts rows is that of the rows.
use Rattle.std.proofs.Common.{◌≡◌, ◌∙◌, ◌≤◌, ℕ, List, Result, Ok, Err, arith, subst, sym}
use Rattle.hx_align.proofs.Carried.{plan_over}
use Rattle.hx_align.specs.Plans.{IsAligned, totals_of}
use Rattle.hx_align.specs.declared.plan.PlanRow.{PlanRow}
use Rattle.hx_align.specs.declared.refusal.AlignRefusal.{AlignRefusal}
use Rattle.hx_align.specs.declared.refusal.AlignRefusal.TheVariants as own
use Rattle.hx_base.proofs.Partitions.{Agree, first_overfull_over, nothing_overfull_over, partitions_over}
use Rattle.hx_base.specs.Pixels.{count_in}
use Rattle.hx_base.specs.declared.pixel.Pixel.{Pixel}
use Rattle.hx_base.specs.declared.row.Row.{Row}
use Rattle.hx_hist.proofs.Rows.{totals_agree}
use Rattle.hx_hist.specs.Histograms.{Histogram, total_in}
use Rattle.hx_spill.specs.Values.{AreCountsOf}

module _ (count other : Pixel → ℕ) (lowest highest threshold : ℕ) (within : highest ≤ 29) (agree : Agree highest count other) where
  aligned_over : (answer : Result (List PlanRow) AlignRefusal) → IsAligned count lowest highest threshold answer → IsAligned other lowest highest threshold answer
  aligned_over (Ok rows) h = (nothing_overfull_over count other lowest highest threshold agree within h.0, plan_over count other lowest highest threshold within agree rows h.1, h.2)
  aligned_over (Err (own.Overfull pixel found)) h = (
    first_overfull_over count other lowest highest threshold agree within pixel h.0,
    h.1 ∙ agree.same (record { order = highest; number = pixel }) (record { order = within; number = h.0.overfull.exists }) (omega arith),
  )
  aligned_over (Err (own.TooMany found)) h = (
    nothing_overfull_over count other lowest highest threshold agree within h.0,
    record { pixels = h.1.pixels; partitions = partitions_over count other lowest highest threshold agree h.1.pixels h.1.partitions; number = h.1.number },
    h.2,
  )
  aligned_over (Err own.Memory) h = h

pub aligned_rows : (lowest highest threshold : ℕ) (rows : List Row) (hist : Histogram) (answer : Result (List PlanRow) AlignRefusal) → highest ≤ 29 → AreCountsOf highest rows hist
    → IsAligned (totals_of hist) lowest highest threshold answer → IsAligned (λ pixel. count_in pixel rows) lowest highest threshold answer
aligned_rows lowest highest threshold rows hist answer within counts aligned =
    aligned_over (totals_of hist) (λ pixel. count_in pixel rows) lowest highest threshold within
    (subst (λ (order : ℕ). Agree highest (λ pixel. total_in pixel order hist.pairs) (λ pixel. count_in pixel rows)) (sym counts.order_is) (totals_agree highest hist.pairs rows within counts.counts)) answer aligned
