-- Partitions of a histogram are those of the rows that it counts.
use Rattle.std.proofs.Common.{◌≡◌, ◌≤◌, ◌++◌, ◌∷◌, ◌∙◌, ℕ, List, [], Option, Some, Result, Ok, Err, map, refl, subst, ap, inl, inr, arith}
use Rattle.std.specs.List.{AllByRecursion, flat_map}
use Rattle.std.proofs.lemmas.List.Elements.{recursion_from_All}
use Rattle.hx_align.proofs.Carried.{plan_over}
use Rattle.hx_align.specs.Plans.{IsPlanOf, pixels_of, totals_of}
use Rattle.hx_align.specs.declared.plan.PlanRow.{PlanRow}
use Rattle.hx_base.proofs.Partitions.{Agree, first_overfull_over, nothing_overfull_over, partitions_over}
use Rattle.hx_base.specs.Pixels.{count_in}
use Rattle.hx_base.specs.declared.refusal.Refusal.{Refusal}
use Rattle.hx_base.specs.declared.refusal.Refusal.TheVariants as refusal
use Rattle.hx_base.specs.declared.row.Row.{Row}
use Rattle.hx_hist.proofs.Rows.{totals_agree}
use Rattle.hx_hist.specs.Histograms.{Histogram, count_at}
use Rattle.hx_align.specs.Refusals.{IsCutRefusal}
use Rattle.hx_base.specs.FirstRefusals.{Shows}
use Rattle.hx_cli.specs.Plans.{IsPlanText, partition_line}

lines-by : (rows : List Row) (plan : List PlanRow) → AllByRecursion (λ row. row.count ≡ count_in row.pixel rows) plan
    → flat_map (λ row. partition_line row.pixel row.count) plan ≡ flat_map (λ pixel. partition_line pixel (count_in pixel rows)) (map (λ row. row.pixel) plan)
lines-by rows [] counts = refl
lines-by rows (row ∷ plan) counts =
    rw (lines-by rows plan counts.1) (ap (λ (n : ℕ). partition_line row.pixel n ++ flat_map (λ pixel. partition_line pixel (count_in pixel rows)) (map (λ (r : PlanRow). r.pixel) plan)) counts.0)

module _ (hist : Histogram) (rows : List Row) (within : hist.order ≤ 29) (counts : (p : ℕ) → count_at p hist.pairs ≡ count_in (record { order = hist.order; number = p }) rows) where
  agree : Agree hist.order (totals_of hist) (λ pixel. count_in pixel rows)
  agree = totals_agree hist.order hist.pairs rows within counts

  -- the text of the plan
  plan-here : (lowest threshold : ℕ) (text : List ℕ) → (plan : List PlanRow) × IsPlanOf (totals_of hist) lowest hist.order threshold plan × (text ≡ flat_map (λ row. partition_line row.pixel row.count) plan)
      → IsPlanText lowest hist.order threshold rows text
  plan-here lowest threshold text (plan, is, lines) =
      let over = plan_over (totals_of hist) (λ pixel. count_in pixel rows) lowest hist.order threshold within agree plan is in
      (pixels_of plan, over.partitions, lines ∙ lines-by rows plan (recursion_from_All (λ row. row.count ≡ count_in row.pixel rows) plan over.counts))

  -- what is refused
  cut-here : (lowest threshold : ℕ) (first : Option Refusal) → IsCutRefusal (totals_of hist) lowest hist.order threshold first → IsCutRefusal (λ pixel. count_in pixel rows) lowest hist.order threshold first
  cut-here lowest threshold first (inl (pixel, over, is)) =
      let highest = hist.order in
      let same = agree.same (record { order = highest; number = pixel }) (record { order = within; number = over.overfull.exists }) (omega arith) in
      inl (pixel, first_overfull_over (totals_of hist) (λ pixel. count_in pixel rows) lowest highest threshold agree within pixel over, is ∙ ap (λ (n : ℕ). Some (refusal.Overfull pixel n)) same)
  cut-here lowest threshold first (inr (nothing, pixels, are, is)) =
      let highest = hist.order in
      inr (
        nothing_overfull_over (totals_of hist) (λ pixel. count_in pixel rows) lowest highest threshold agree within nothing,
        pixels,
        partitions_over (totals_of hist) (λ pixel. count_in pixel rows) lowest highest threshold agree pixels are,
        is,
      )

module _ (hist : Histogram) (highest : ℕ) (rows : List Row) (order : hist.order ≡ highest) (within : highest ≤ 29) (counts : (p : ℕ) → count_at p hist.pairs ≡ count_in (record { order = highest; number = p }) rows) (lowest threshold : ℕ) where
  pub plan_of_rows : (text : List ℕ) → (plan : List PlanRow) × IsPlanOf (totals_of hist) lowest highest threshold plan × (text ≡ flat_map (λ row. partition_line row.pixel row.count) plan) → IsPlanText lowest highest threshold rows text
  plan_of_rows text made =
      subst (λ (h : ℕ). h ≤ 29 → ((p : ℕ) → count_at p hist.pairs ≡ count_in (record { order = h; number = p }) rows)
      → (plan : List PlanRow) × IsPlanOf (totals_of hist) lowest h threshold plan × (text ≡ flat_map (λ row. partition_line row.pixel row.count) plan) → IsPlanText lowest h threshold rows text)
      order (λ w c m. plan-here hist rows w c lowest threshold text m) within counts made

  pub cut_of_rows : (first : Option Refusal) → IsCutRefusal (totals_of hist) lowest highest threshold first → IsCutRefusal (λ pixel. count_in pixel rows) lowest highest threshold first
  cut_of_rows first cut =
      subst (λ (h : ℕ). h ≤ 29 → ((p : ℕ) → count_at p hist.pairs ≡ count_in (record { order = h; number = p }) rows)
      → IsCutRefusal (totals_of hist) lowest h threshold first → IsCutRefusal (λ pixel. count_in pixel rows) lowest h threshold first)
      order (λ w c m. cut-here hist rows w c lowest threshold first m) within counts cut

pub shows_weaker : {T : Type 0} (P Q : Option Refusal → Type 0) (result : Result T Refusal) → ((first : Option Refusal) → P first → Q first) → Shows P result → Shows Q result
shows_weaker P Q (Ok x) f shows = f _ shows
shows_weaker P Q (Err r) f (inl free) = inl free
shows_weaker P Q (Err r) f (inr first) = inr (f _ first)
