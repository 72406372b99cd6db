-- The plan of some counts and the plan of one more pixel's counts make a plan of both.
use Rattle.std.proofs.Common.{◌≡◌, ◌≢◌, ◌∙◌, ◌+◌, ◌-◌, ◌*◌, ◌/◌, ◌^◌, ◌<◌, ◌≤◌, ◌∷◌, ◌++◌, [], ℕ, List, length, refl, sym, ap, arith, inl, inr, ◌↔◌, get_or, subst}
use Rattle.std.specs.List.{All, AllPairs, Contains}
use Rattle.std.proofs.lemmas.Bool.{cases_eq, cases_lt}
use Rattle.std.proofs.lemmas.List.{map-append, get_or-append-add, get_or-map, length-append, length-map}
use Rattle.std.proofs.lemmas.List.Elements.{All-append, All-cons, All-nil, All-contains_itself, Contains-append_left, Contains-append_right, Contains-append_cases}
use Rattle.std.proofs.Math.ListN.{get_or-append}
use Rattle.std.proofs.Math.Nat.{div-lt_iff_lt-mul, le-div_iff_mul-le, mul-le-mul_right}
use Rattle.std.proofs.lemmas.Nat.{pow-add}
use Rattle.hx_base.specs.declared.pixel.Pixel.{Pixel}
use Rattle.hx_base.specs.Pixels.{IsPixel, first_position}
use Rattle.hx_base.specs.Partitions.{IsPartition, parent}
use Rattle.hx_base.proofs.Partitions.{parent_up}
use Rattle.hx_base.proofs.Powers.{four_pos}
use Rattle.hx_align.specs.declared.plan.PlanRow.{PlanRow}
use Rattle.hx_align.specs.Plans.{IsPlanOf, pixels_of}

-- a list of pairs in order, one after another
AllPairs-append : {X : Type 0} (R : X → X → Type 0) (xs ys : List X) → AllPairs R xs → AllPairs R ys → ((x y : X) → Contains xs x → Contains ys y → R x y) → AllPairs R (xs ++ ys)
AllPairs-append R xs ys h g across = λ i j d lt within.
    let size = length-append xs ys in
    elim (cases_lt j (length xs)) [
      | inl low ↦ rw (get_or-append xs ys d i (omega arith), get_or-append xs ys d j low) (h i j d lt low)
      | inr high ↦
          let at_j : j ≡ length xs + (j - length xs) = omega arith in
          let is_j : get_or (xs ++ ys) j d ≡ get_or ys (j - length xs) d = ap (λ (k : ℕ). get_or (xs ++ ys) k d) at_j ∙ get_or-append-add xs ys (j - length xs) d in
          let in_j : j - length xs < length ys = omega (arith, size) in
          elim (cases_lt i (length xs)) [
            | inl below ↦ rw (get_or-append xs ys d i below, is_j) (across (get_or xs i d) (get_or ys (j - length xs) d) (All-contains_itself xs i d below) (All-contains_itself ys (j - length xs) d in_j))
            | inr above ↦
                let at_i : i ≡ length xs + (i - length xs) = omega arith in
                let is_i : get_or (xs ++ ys) i d ≡ get_or ys (i - length xs) d = ap (λ (k : ℕ). get_or (xs ++ ys) k d) at_i ∙ get_or-append-add xs ys (i - length xs) d in
                rw (is_i, is_j) (g (i - length xs) (j - length xs) d (omega arith) in_j)
          ]
    ]

-- the pixel of an order in which another lies
abbrev pub above : ℕ → Pixel → ℕ
above order pixel = pixel.number / 4 ^ (pixel.order - order)

-- Counts of lower pixels and counts of one more pixel, of the lowest order, come together.
pub record Joins (lowest highest number : ℕ) (front run both : Pixel → ℕ) : Type 0 where
  pub exists : IsPixel (record { order = lowest; number = number })
  pub orders : lowest ≤ highest
  pub sum : (pixel : Pixel) → both pixel ≡ front pixel + run pixel
  pub lower : (pixel : Pixel) → lowest ≤ pixel.order → pixel.order ≤ highest → 1 ≤ front pixel → above lowest pixel < number
  pub inside : (pixel : Pixel) → lowest ≤ pixel.order → pixel.order ≤ highest → 1 ≤ run pixel → above lowest pixel ≡ number
  pub grows : (pixel : Pixel) → run pixel ≤ run (record { order = lowest; number = number })

module _ (lowest highest threshold number : ℕ) (front run both : Pixel → ℕ) (joins : Joins lowest highest number front run both) where
  abbrev whole : Pixel
  whole = record { order = lowest; number = number }

  -- at or below the lowest order, up to the highest
  record Is (pixel : Pixel) : Type 0 where
    low : lowest ≤ pixel.order
    high : pixel.order ≤ highest

  outside : (pixel : Pixel) → Is pixel → above lowest pixel ≢ number → both pixel ≡ front pixel
  outside pixel is ne =
      let sum = joins.sum pixel in
      elim (cases_lt 0 (run pixel)) [
        | inl some ↦ absurd (ne (joins.inside pixel is.low is.high (omega arith)))
        | inr none ↦ omega arith
      ]

  within : (pixel : Pixel) → Is pixel → above lowest pixel ≡ number → both pixel ≡ run pixel
  within pixel is same =
      let sum = joins.sum pixel in
      elim (cases_lt 0 (front pixel)) [
        | inl some ↦ absurd (let lt = joins.lower pixel is.low is.high (omega arith) in omega (arith, same))
        | inr none ↦ omega arith
      ]

  parent_above : (pixel : Pixel) → lowest < pixel.order → above lowest (parent pixel) ≡ above lowest pixel
  parent_above pixel lt = parent_up pixel.order lowest pixel.number lt

  is_parent : (pixel : Pixel) → Is pixel → lowest < pixel.order → Is (parent pixel)
  is_parent pixel is lt = record { low = omega arith; high = omega (arith, is.high) }

  is_whole : (pixel : Pixel) → pixel.order ≡ lowest → above lowest pixel ≡ number → pixel ≡ whole
  is_whole pixel order same =
      let e : pixel.order - lowest ≡ 0 = omega arith in
      let numbers : pixel.number / 1 ≡ number = subst (λ (m : ℕ). pixel.number / 4 ^ m ≡ number) e same in
      let number_is : pixel.number ≡ number = omega (arith, numbers) in
      rw (order, number_is) refl

  whole_above : above lowest whole ≡ number
  whole_above =
      let e : lowest - lowest ≡ 0 = omega arith in
      let one : number / 1 ≡ number = omega arith in
      subst (λ (m : ℕ). number / 4 ^ m ≡ number) (sym e) one

  -- a pixel elsewhere is a partition as before
  keep : (old new : Pixel → ℕ) (pixel : Pixel) → ((p : Pixel) → Is p → above lowest p ≢ number → old p ≡ new p) → above lowest pixel ≢ number
      → IsPartition old lowest highest threshold pixel → IsPartition new lowest highest threshold pixel
  keep old new pixel same ne h =
      let is : Is pixel = record { low = h.not_lower; high = h.not_higher } in
      let here = same pixel is ne in
      record {
        exists = h.exists;
        not_lower = h.not_lower;
        not_higher = h.not_higher;
        some = omega (arith, here, h.some);
        most = omega (arith, here, h.most);
        largest = elim (cases_eq pixel.order lowest) [
          | inl least ↦ inl least
          | inr off ↦
              let lt : lowest < pixel.order = omega (arith, h.not_lower) in
              let up = same (parent pixel) (is_parent pixel is lt) (λ e. ne (sym (parent_above pixel lt) ∙ e)) in
              elim h.largest [ inl least ↦ inl least | inr more ↦ inr (omega (arith, up, more)) ]
        ];
      }

  kept : (pixel : Pixel) → above lowest pixel ≢ number → IsPartition front lowest highest threshold pixel ↔ IsPartition both lowest highest threshold pixel
  kept pixel ne = (keep front both pixel (λ p is off. sym (outside p is off)) ne, keep both front pixel outside ne)

  front_below : (pixel : Pixel) → IsPartition front lowest highest threshold pixel → above lowest pixel < number
  front_below pixel h = joins.lower pixel h.not_lower h.not_higher h.some

  -- a pixel above another at the lowest order begins behind its end
  begins_before : (pixel : Pixel) → lowest ≤ pixel.order → pixel.order ≤ 29 → above lowest pixel < number → first_position pixel < number * 4 ^ (29 - lowest)
  begins_before pixel low most lt =
      let inner : pixel.number < number * 4 ^ (pixel.order - lowest) = (div-lt_iff_lt-mul {k = 4 ^ (pixel.order - lowest)} {x = pixel.number} {y = number} (four_pos (pixel.order - lowest))).0 lt in
      let e : pixel.order - lowest + (29 - pixel.order) ≡ 29 - lowest = omega arith in
      let power : 4 ^ (29 - lowest) ≡ 4 ^ (pixel.order - lowest) * 4 ^ (29 - pixel.order) = ap (λ (m : ℕ). 4 ^ m) (sym e) ∙ pow-add 4 (pixel.order - lowest) (29 - pixel.order) in
      let some = four_pos (29 - pixel.order) in
      let more = mul-le-mul_right (4 ^ (29 - pixel.order)) (let le : pixel.number + 1 ≤ number * 4 ^ (pixel.order - lowest) = omega arith in le) in
      rw power (omega (arith, some, more))

  begins_at_or_after : (pixel : Pixel) → lowest ≤ pixel.order → pixel.order ≤ 29 → above lowest pixel ≡ number → number * 4 ^ (29 - lowest) ≤ first_position pixel
  begins_at_or_after pixel low most same =
      let inner : number * 4 ^ (pixel.order - lowest) ≤ pixel.number = (le-div_iff_mul-le {k = 4 ^ (pixel.order - lowest)} {x = number} {y = pixel.number} (four_pos (pixel.order - lowest))).0 (omega arith) in
      let e : pixel.order - lowest + (29 - pixel.order) ≡ 29 - lowest = omega arith in
      let power : 4 ^ (29 - lowest) ≡ 4 ^ (pixel.order - lowest) * 4 ^ (29 - pixel.order) = ap (λ (m : ℕ). 4 ^ m) (sym e) ∙ pow-add 4 (pixel.order - lowest) (29 - pixel.order) in
      let more = mul-le-mul_right (4 ^ (29 - pixel.order)) inner in
      rw power (omega (arith, more))

  module _ (rows : List PlanRow) (plan : IsPlanOf front lowest highest threshold rows) where
    in_front : (pixel : Pixel) → Contains (pixels_of rows) pixel → IsPartition front lowest highest threshold pixel
    in_front pixel m = (plan.partitions.exact pixel).0 m

    -- pixels that are the partitions in the one more pixel
    record Rest (more : List PlanRow) : Type 0 where
      exact : (pixel : Pixel) → above lowest pixel ≡ number → Contains (pixels_of more) pixel ↔ IsPartition both lowest highest threshold pixel
      inside : (pixel : Pixel) → Contains (pixels_of more) pixel → above lowest pixel ≡ number
      ordered : AllPairs (λ a b. first_position a < first_position b) (pixels_of more)
      counts : All (λ row. row.count ≡ both row.pixel) more

    member : (more : List PlanRow) → Rest more → (pixel : Pixel) → Contains (pixels_of rows ++ pixels_of more) pixel → IsPartition both lowest highest threshold pixel
    member more rest pixel m = elim (Contains-append_cases (pixels_of rows) (pixels_of more) pixel m) [
      | inl left ↦
          let h = in_front pixel left in
          (kept pixel (λ e. let lt = front_below pixel h in omega (arith, e))).0 h
      | inr right ↦ (rest.exact pixel (rest.inside pixel right)).0 right
    ]

    listed : (more : List PlanRow) → Rest more → (pixel : Pixel) → IsPartition both lowest highest threshold pixel → Contains (pixels_of rows ++ pixels_of more) pixel
    listed more rest pixel h = elim (cases_eq (above lowest pixel) number) [
      | inl same ↦ Contains-append_right (pixels_of rows) (pixels_of more) pixel ((rest.exact pixel same).1 h)
      | inr ne ↦ Contains-append_left (pixels_of rows) (pixels_of more) pixel ((plan.partitions.exact pixel).1 ((kept pixel ne).1 h))
    ]

    in_order : (more : List PlanRow) → Rest more → (a b : Pixel) → Contains (pixels_of rows) a → Contains (pixels_of more) b → first_position a < first_position b
    in_order more rest a b in_a in_b =
        let h = in_front a in_a in
        let same = rest.inside b in_b in
        let g = (rest.exact b same).0 in_b in
        let one = begins_before a h.not_lower h.exists.order (front_below a h) in
        let two = begins_at_or_after b g.not_lower g.exists.order same in
        omega arith

    row_member : (list : List PlanRow) (k : ℕ) (d : PlanRow) → k < length list → Contains (pixels_of list) (get_or list k d).pixel
    row_member list k d lt = (k, rw length-map lt, get_or-map (λ (row : PlanRow). row.pixel) list k d (get_or list k d).pixel lt)

    row_count : (k : ℕ) (d : PlanRow) → k < length rows → (get_or rows k d).count ≡ both (get_or rows k d).pixel
    row_count k d lt =
        let row = get_or rows k d in
        let h = in_front row.pixel (row_member rows k d lt) in
        let is : Is row.pixel = record { low = h.not_lower; high = h.not_higher } in
        plan.counts k d lt ∙ sym (outside row.pixel is (λ e. let below = front_below row.pixel h in omega (arith, e)))

    joined : (more : List PlanRow) → Rest more → IsPlanOf both lowest highest threshold (rows ++ more)
    joined more rest = record {
      partitions = record {
        exact = λ pixel. rw map-append (member more rest pixel, listed more rest pixel);
        ordered = rw map-append (AllPairs-append (λ a b. first_position a < first_position b) (pixels_of rows) (pixels_of more) plan.partitions.ordered rest.ordered (in_order more rest));
      };
      counts = All-append (λ row. row.count ≡ both row.pixel) rows more row_count rest.counts;
    }

    -- the one more pixel is a partition itself
    alone : PlanRow
    alone = record { pixel = whole; count = run whole }

    whole_is : both whole ≡ run whole
    whole_is = within whole (record { low = omega arith; high = joins.orders }) whole_above

    whole_partition : 1 ≤ run whole → run whole ≤ threshold → IsPartition both lowest highest threshold whole
    whole_partition some most = record {
      exists = joins.exists;
      not_lower = omega arith;
      not_higher = joins.orders;
      some = omega (arith, whole_is);
      most = omega (arith, whole_is);
      largest = inl refl;
    }

    only_whole : run whole ≤ threshold → (pixel : Pixel) → above lowest pixel ≡ number → IsPartition both lowest highest threshold pixel → whole ≡ pixel
    only_whole most pixel same h = elim (cases_eq pixel.order lowest) [
      | inl least ↦ sym (is_whole pixel least same)
      | inr off ↦
          let is : Is pixel = record { low = h.not_lower; high = h.not_higher } in
          let lt : lowest < pixel.order = omega (arith, h.not_lower) in
          let up = within (parent pixel) (is_parent pixel is lt) (parent_above pixel lt ∙ same) in
          let no_more = joins.grows (parent pixel) in
          elim h.largest [ inl least ↦ absurd (off least) | inr more ↦ absurd (omega (arith, up, no_more, more)) ]
    ]

    single : (x y : Pixel) → Contains (x ∷ []) y → x ≡ y
    single x y h = let at : h.0 ≡ 0 = omega (arith, h.1) in subst (λ (k : ℕ). get_or (x ∷ []) k y ≡ y) at h.2

    pub joined_whole : 1 ≤ run whole → run whole ≤ threshold → IsPlanOf both lowest highest threshold (rows ++ (record { pixel = whole; count = run whole }) ∷ [])
    unfolding alone
    joined_whole some most = joined (alone ∷ []) (record {
      exact = λ pixel same. (
        λ m. subst (IsPartition both lowest highest threshold) (single whole pixel m) (whole_partition some most),
        λ h. (0, omega arith, only_whole most pixel same h),
      );
      inside = λ pixel m. subst (λ (p : Pixel). above lowest p ≡ number) (single whole pixel m) whole_above;
      ordered = λ i j d lt inside. absurd (omega (arith, inside));
      counts = All-cons (λ row. row.count ≡ both row.pixel) alone [] (sym whole_is) (All-nil (λ row. row.count ≡ both row.pixel));
    })

    -- it is cut further
    module _ (more : List PlanRow) (large : threshold < run whole) (cut : IsPlanOf run (lowest + 1) highest threshold more) where
      in_cut : (pixel : Pixel) → Contains (pixels_of more) pixel → IsPartition run (lowest + 1) highest threshold pixel
      in_cut pixel m = (cut.partitions.exact pixel).0 m

      cut_above : (pixel : Pixel) → IsPartition run (lowest + 1) highest threshold pixel → above lowest pixel ≡ number
      cut_above pixel h = joins.inside pixel (omega (arith, h.not_lower)) h.not_higher h.some

      is_cut : (pixel : Pixel) → IsPartition run (lowest + 1) highest threshold pixel → IsPartition both lowest highest threshold pixel
      is_cut pixel h =
          let same = cut_above pixel h in
          let is : Is pixel = record { low = omega (arith, h.not_lower); high = h.not_higher } in
          let lt : lowest < pixel.order = omega (arith, h.not_lower) in
          let here = within pixel is same in
          let same_up = parent_above pixel lt ∙ same in
          let up = within (parent pixel) (is_parent pixel is lt) same_up in
          record {
            exists = h.exists;
            not_lower = omega (arith, h.not_lower);
            not_higher = h.not_higher;
            some = omega (arith, here, h.some);
            most = omega (arith, here, h.most);
            largest = elim h.largest [
              | inl next ↦
                  let order : pixel.order - 1 ≡ lowest = omega (arith, next) in
                  let e = ap run (is_whole (parent pixel) order same_up) in
                  inr (omega (arith, up, e))
              | inr higher ↦ inr (omega (arith, up, higher))
            ];
          }

      was_cut : (pixel : Pixel) → above lowest pixel ≡ number → IsPartition both lowest highest threshold pixel → IsPartition run (lowest + 1) highest threshold pixel
      was_cut pixel same h =
          let is : Is pixel = record { low = h.not_lower; high = h.not_higher } in
          let here = within pixel is same in
          elim (cases_eq pixel.order lowest) [
            | inl least ↦ let e = ap run (is_whole pixel least same) in absurd (omega (arith, here, e, h.most))
            | inr off ↦
                let lt : lowest < pixel.order = omega (arith, h.not_lower) in
                let up = within (parent pixel) (is_parent pixel is lt) (parent_above pixel lt ∙ same) in
                record {
                  exists = h.exists;
                  not_lower = omega arith;
                  not_higher = h.not_higher;
                  some = omega (arith, here, h.some);
                  most = omega (arith, here, h.most);
                  largest = elim h.largest [ inl least ↦ absurd (off least) | inr higher ↦ inr (omega (arith, up, higher)) ];
                }
          ]

      pub joined_cut : IsPlanOf both lowest highest threshold (rows ++ more)
      joined_cut = joined more (record {
        exact = λ pixel same. (λ m. is_cut pixel (in_cut pixel m), λ h. (cut.partitions.exact pixel).1 (was_cut pixel same h));
        inside = λ pixel m. cut_above pixel (in_cut pixel m);
        ordered = cut.partitions.ordered;
        counts = λ k d lt.
            let row = get_or more k d in
            let h = in_cut row.pixel (row_member more k d lt) in
            let is : Is row.pixel = record { low = omega (arith, h.not_lower); high = h.not_higher } in
            cut.counts k d lt ∙ sym (within row.pixel is (cut_above row.pixel h));
      })

-- no rows have no partitions
pub nothing_planned : (count : Pixel → ℕ) (lowest highest threshold : ℕ) → ((pixel : Pixel) → count pixel ≡ 0) → IsPlanOf count lowest highest threshold []
nothing_planned count lowest highest threshold none = record {
  partitions = record {
    exact = λ pixel. (λ m. absurd (omega (arith, m.1)), λ h. absurd (omega (arith, none pixel, h.some)));
    ordered = λ i j d lt inside. absurd (omega (arith, inside));
  };
  counts = All-nil (λ row. row.count ≡ count row.pixel);
}
