-- Counts that agree have the same partitions and the same refusal; and an alignment's answer is one.
use Rattle.std.proofs.Common.{◌≡◌, ◌≢◌, ◌∙◌, ◌∷◌, ◌≤◌, [], ℕ, List, Option, Some, Result, Ok, Err, suc, length, refl, sym, ap, arith, get_or, inl, inr}
use Rattle.std.specs.List.{All}
use Rattle.std.proofs.lemmas.Bool.{cases_order}
use Rattle.std.proofs.lemmas.List.{get_or-map, length-map}
use Rattle.hx_base.specs.declared.pixel.Pixel.{Pixel}
use Rattle.hx_base.specs.Partitions.{IsFirstOverfull}
use Rattle.hx_base.specs.declared.refusal.Refusal.{Refusal}
use Rattle.hx_base.specs.declared.refusal.Refusal.TheVariants as refusal
use Rattle.hx_base.proofs.Partitions.{Agree, first_overfull_over, nothing_overfull_over, partitions_over, partitions_unique}
use Rattle.hx_align.specs.declared.refusal.AlignRefusal.{AlignRefusal}
use Rattle.hx_align.specs.declared.refusal.AlignRefusal.TheVariants as own
use Rattle.hx_align.specs.declared.plan.PlanRow.{PlanRow}
use Rattle.hx_align.specs.Plans.{HasPartitions, IsAligned, IsPlanOf, pixels_of}
use Rattle.hx_align.specs.Refusals.{IsCutRefusal}

module _ (count other : Pixel → ℕ) (lowest highest threshold : ℕ) (within : highest ≤ 29) (agree : Agree highest count other) where
  pub plan_over : (rows : List PlanRow) → IsPlanOf count lowest highest threshold rows → IsPlanOf other lowest highest threshold rows
  plan_over rows h = record {
    partitions = partitions_over count other lowest highest threshold agree (pixels_of rows) h.partitions;
    counts = λ k d lt.
        let row = get_or rows k d in
        let part = (h.partitions.exact row.pixel).0 (k, rw length-map lt, get_or-map (λ (r : PlanRow). r.pixel) rows k d row.pixel lt) in
        h.counts k d lt ∙ agree.same row.pixel part.exists part.not_higher;
  }

  pub cut_over : (first : Option Refusal) → IsCutRefusal count lowest highest threshold first → IsCutRefusal other lowest highest threshold first
  cut_over first (inl (pixel, over, is)) =
      let same = agree.same (record { order = highest; number = pixel }) (record { order = within; number = over.overfull.exists }) (omega arith) in
      inl (pixel, first_overfull_over count other lowest highest threshold agree within pixel over, is ∙ ap (λ (n : ℕ). Some (refusal.Overfull pixel n)) same)
  cut_over first (inr (nothing, pixels, are, is)) =
      inr (nothing_overfull_over count other lowest highest threshold agree within nothing, pixels, partitions_over count other lowest highest threshold agree pixels are, is)

-- rows of the same pixels that count alike
same_rows : (count : Pixel → ℕ) (rows others : List PlanRow) → pixels_of rows ≡ pixels_of others → All (λ row. row.count ≡ count row.pixel) rows → All (λ row. row.count ≡ count row.pixel) others → rows ≡ others
same_rows count [] [] e h g = refl
same_rows count [] (y ∷ ys) e h g = absurd (cc)
same_rows count (x ∷ xs) [] e h g = absurd (cc)
same_rows count (x ∷ xs) (y ∷ ys) e h g =
    let pixel : x.pixel ≡ y.pixel = cc in
    let tail : pixels_of xs ≡ pixels_of ys = cc in
    let counts : x.count ≡ y.count = h 0 x (omega arith) ∙ ap count pixel ∙ sym (g 0 y (omega arith)) in
    let rest = same_rows count xs ys tail (λ k d lt. h (suc k) d (omega (arith, lt))) (λ k d lt. g (suc k) d (omega (arith, lt))) in
    rw (row_is x y pixel counts, rest) refl where
      row_is : (x y : PlanRow) → x.pixel ≡ y.pixel → x.count ≡ y.count → x ≡ y
      row_is x y pixel counts = ap (λ (p : Pixel). record { pixel = p; count = x.count }) pixel ∙ ap (λ (n : ℕ). record { pixel = y.pixel; count = n }) counts

module _ (count : Pixel → ℕ) (lowest highest threshold : ℕ) where
  pub plan_unique : (rows others : List PlanRow) → IsPlanOf count lowest highest threshold rows → IsPlanOf count lowest highest threshold others → rows ≡ others
  plan_unique rows others h g = same_rows count rows others (partitions_unique count lowest highest threshold (pixels_of rows) (pixels_of others) h.partitions g.partitions) h.counts g.counts

  first_unique : (a b : ℕ) → IsFirstOverfull count highest threshold a → IsFirstOverfull count highest threshold b → a ≡ b
  first_unique a b h g = elim (cases_order a b) [
    | inl same ↦ same
    | inr (inl less) ↦ absurd (g.first a less h.overfull)
    | inr (inr more) ↦ absurd (h.first b more g.overfull)
  ]

  found_is : (rows : List PlanRow) (found : ℕ) → IsPlanOf count lowest highest threshold rows → HasPartitions count lowest highest threshold found → length rows ≡ found
  found_is rows found h g = sym (length-map rows (λ (row : PlanRow). row.pixel)) ∙ ap (length {A = Pixel}) (partitions_unique count lowest highest threshold (pixels_of rows) g.pixels h.partitions g.partitions) ∙ g.number

  -- one refusal, or none
  pub cut_unique : (a b : Option Refusal) → IsCutRefusal count lowest highest threshold a → IsCutRefusal count lowest highest threshold b → a ≡ b
  cut_unique a b (inl (p, over, is)) (inl (q, over', is')) = is ∙ rw (first_unique p q over over') (sym is')
  cut_unique a b (inl (p, over, is)) (inr (nothing, pixels, are, is')) = absurd (nothing p over.overfull)
  cut_unique a b (inr (nothing, pixels, are, is')) (inl (p, over, is)) = absurd (nothing p over.overfull)
  cut_unique a b (inr (nothing, pixels, are, is)) (inr (nothing', others, are', is')) =
      is ∙ rw (partitions_unique count lowest highest threshold pixels others are are') (sym is')

  -- two answers, neither of them for want of memory, are one
  pub aligned_unique : (a b : Result (List PlanRow) AlignRefusal) → IsAligned count lowest highest threshold a → IsAligned count lowest highest threshold b → a ≢ Err own.Memory → b ≢ Err own.Memory → a ≡ b
  aligned_unique (Ok rows) (Ok others) h g not_a not_b = ap Ok (plan_unique rows others h.1 g.1)
  aligned_unique (Ok rows) (Err (own.Overfull pixel found)) h g not_a not_b = absurd (h.0 pixel g.0.overfull)
  aligned_unique (Ok rows) (Err (own.TooMany found)) h g not_a not_b = absurd (let same = found_is rows found h.1 g.1 in omega (arith, same, h.2, g.2))
  aligned_unique (Err (own.Overfull pixel found)) (Ok rows) h g not_a not_b = absurd (g.0 pixel h.0.overfull)
  aligned_unique (Err (own.Overfull pixel found)) (Err (own.Overfull other count_b)) h g not_a not_b =
      let same = first_unique pixel other h.0 g.0 in
      let counts : found ≡ count_b = h.1 ∙ ap (λ (n : ℕ). count (record { order = highest; number = n })) same ∙ sym g.1 in
      rw (same, counts) refl
  aligned_unique (Err (own.Overfull pixel found)) (Err (own.TooMany other)) h g not_a not_b = absurd (g.0 pixel h.0.overfull)
  aligned_unique (Err (own.TooMany found)) (Ok rows) h g not_a not_b = absurd (let same = found_is rows found g.1 h.1 in omega (arith, same, h.2, g.2))
  aligned_unique (Err (own.TooMany found)) (Err (own.Overfull pixel other)) h g not_a not_b = absurd (h.0 pixel g.0.overfull)
  aligned_unique (Err (own.TooMany found)) (Err (own.TooMany other)) h g not_a not_b =
      let same : found ≡ other = sym h.1.number ∙ ap (length {A = Pixel}) (partitions_unique count lowest highest threshold h.1.pixels g.1.pixels h.1.partitions g.1.partitions) ∙ g.1.number in
      rw same refl
  aligned_unique (Err own.Memory) b h g not_a not_b = absurd (not_a refl)
  aligned_unique (Ok rows) (Err own.Memory) h g not_a not_b = absurd (not_b refl)
  aligned_unique (Err (own.Overfull pixel found)) (Err own.Memory) h g not_a not_b = absurd (not_b refl)
  aligned_unique (Err (own.TooMany found)) (Err own.Memory) h g not_a not_b = absurd (not_b refl)
