-- Runs of pairs that lie in one pixel.
use Rattle.std.proofs.Common.{append_assoc, ◌≡◌, ◌≢◌, ◌∙◌, ◌+◌, ◌-◌, ◌*◌, ◌/◌, ◌^◌, ◌<◌, ◌≤◌, ◌∷◌, ◌++◌, [], ℕ, List, length, sym, ap, arith, inl, inr, get_or, take, drop, subst}
use Rattle.std.specs.List.{All, AllPairs}
use Rattle.std.proofs.lemmas.Bool.{cases_eq, cases_lt}
use Rattle.std.proofs.lemmas.List.{get_or-take, get_or-drop, length-take, length-take-le, length-drop, take_all}
use Rattle.std.proofs.lemmas.List.Elements.{All-take, All-drop}
use Rattle.std.proofs.lemmas.List.Sums.{sum_by-take-drop, sum_by-take-le, sum_by_more_le}
use Rattle.std.proofs.Math.Nat.{div-mul-le_self, le-div_iff_mul-le}
use Rattle.std.proofs.Math.Seq.{take-add}
use Rattle.hx_base.specs.declared.pixel.Pixel.{Pixel}
use Rattle.hx_base.proofs.Partitions.{up_again}
use Rattle.hx_base.proofs.Powers.{four_pos, parent_below}
use Rattle.hx_hist.specs.Histograms.{IsHistogram, total_in, total_of}
use Rattle.hx_hist.specs.declared.hist.Pair.{Pair}
use Rattle.hx_hist.proofs.Totals.{count_is_total, pair_in, total_in-append, total_in_all, total_in_most}
use Rattle.hx_align.specs.declared.plan.PlanRow.{PlanRow}
use Rattle.hx_align.specs.Plans.{AppendsPlan}
use Rattle.hx_align.proofs.Joining.{Joins, above, joined_cut, joined_whole}

abbrev none : Pair
none = record { pixel = 0; count = 0 }

-- the pairs before an index lie in lower pixels, so many orders above, than those from it on
pub record IsParted (steps index : ℕ) (pairs : List Pair) : Type 0 where
  pub lower : (i j : ℕ) (d : Pair) → i < index → index ≤ j → j < length pairs → (get_or pairs i d).pixel / 4 ^ steps < (get_or pairs j d).pixel / 4 ^ steps

pub parted_at_start : (steps : ℕ) (pairs : List Pair) → IsParted steps 0 pairs
parted_at_start steps pairs = record { lower = λ i j d lt le within. absurd (omega arith) }

-- the pairs of one pixel, so many orders above, from an index on
pub record IsRun (steps number start size : ℕ) (pairs : List Pair) : Type 0 where
  pub some : 0 < size
  pub within : start + size ≤ length pairs
  pub inside : (k : ℕ) (d : Pair) → start ≤ k → k < start + size → (get_or pairs k d).pixel / 4 ^ steps ≡ number
  pub next : (d : Pair) → start + size < length pairs → (get_or pairs (start + size) d).pixel / 4 ^ steps ≢ number

module _ (pairs : List Pair) (steps number start size : ℕ) (up : AllPairs (λ a b. a.pixel < b.pixel) pairs) (run : IsRun steps number start size pairs) where
  no_lower : (i j : ℕ) (d : Pair) → i ≤ j → j < length pairs → (get_or pairs i d).pixel / 4 ^ steps ≤ (get_or pairs j d).pixel / 4 ^ steps
  no_lower i j d le within = elim (cases_eq i j) [
    | inl same ↦ rw same (omega arith)
    | inr off ↦
        let lt = up i j d (omega arith) within in
        let low = div-mul-le_self (get_or pairs i d).pixel (4 ^ steps) in
        (le-div_iff_mul-le {k = 4 ^ steps} {x = (get_or pairs i d).pixel / 4 ^ steps} {y = (get_or pairs j d).pixel} (four_pos steps)).1 (omega arith)
  ]

  pub parted_behind : IsParted steps start pairs → IsParted steps (start + size) pairs
  parted_behind parted = record {
    lower = λ i j d lt le within.
        elim (cases_lt i start) [
          | inl before ↦ parted.lower i j d before (omega arith) within
          | inr from ↦
              let here = run.inside i d from lt in
              let next = run.next d (omega arith) in
              let least = no_lower start (start + size) d (omega arith) (omega arith) in
              let first = run.inside start d (omega arith) (let some = run.some in omega arith) in
              let more = no_lower (start + size) j d le within in
              omega (arith, here, next, least, first, more)
        ];
  }

  abbrev part : List Pair
  part = take size (drop start pairs)

  part_length : length part ≡ size
  part_length = length-take-le size (drop start pairs) (omega (arith, length-drop start pairs, run.within))

  part_at : (k : ℕ) (d : Pair) → k < size → get_or part k d ≡ get_or pairs (start + k) d
  part_at k d lt = get_or-take size (drop start pairs) k d lt ∙ get_or-drop start pairs k d

  part_inside : All (λ pair. pair.pixel / 4 ^ steps ≡ number) part
  part_inside k d within =
      let lt : k < size = omega (arith, part_length) in
      rw (part_at k d lt) (run.inside (start + k) d (omega arith) (omega arith))

pub part_total : (pairs : List Pair) (start size : ℕ) → total_of (take size (drop start pairs)) ≤ total_of pairs
part_total pairs start size =
    let count = λ (pair : Pair). pair.count in
    omega (arith, sum_by-take-le count (drop start pairs) size, sum_by-take-drop count pairs start)

pub part_histogram : (order : ℕ) (pairs : List Pair) (start size : ℕ) → IsHistogram order pairs → IsHistogram order (take size (drop start pairs))
part_histogram order pairs start size h = record {
  ascending = λ i j d lt within.
      let shorter = length-take size (drop start pairs) in
      let rest = length-drop start pairs in
      let lt_j : j < size = omega arith in
      let in_j : start + j < length pairs = omega arith in
      rw (get_or-take size (drop start pairs) i d (omega arith), get_or-drop start pairs i d, get_or-take size (drop start pairs) j d lt_j, get_or-drop start pairs j d) (h.ascending (start + i) (start + j) d (omega arith) in_j);
  counted = All-take (λ pair. 0 < pair.count) size (drop start pairs) (All-drop (λ pair. 0 < pair.count) start pairs h.counted);
  range = All-take (λ pair. pair.pixel < 12 * 4 ^ order) size (drop start pairs) (All-drop (λ pair. pair.pixel < 12 * 4 ^ order) start pairs h.range);
}

-- a run comes to the pairs before it as the counts of one more pixel
module _ (pairs : List Pair) (lowest highest number start size : ℕ) (orders : lowest ≤ highest) (most : highest ≤ 29) (h : IsHistogram highest pairs) (run : IsRun (highest - lowest) number start size pairs) where
  abbrev inner : List Pair
  inner = take size (drop start pairs)

  abbrev whole : Pixel
  whole = record { order = lowest; number = number }

  inner_inside : All (λ pair. pair.pixel / 4 ^ (highest - lowest) ≡ number) inner
  inner_inside = part_inside pairs (highest - lowest) number start size h.ascending run

  -- the run is what its pixel has
  pub run_total : total_in whole highest inner ≡ total_of inner
  run_total = total_in_all whole highest inner inner_inside

  pub run_joins : IsParted (highest - lowest) start pairs
      → Joins lowest highest number (λ pixel. total_in pixel highest (take start pairs)) (λ pixel. total_in pixel highest inner) (λ pixel. total_in pixel highest (take (start + size) pairs))
  run_joins parted =
      let some = run.some in
      let within = run.within in
      record {
        exists = record {
          order = omega arith;
          number =
              let below = parent_below (get_or pairs start none).pixel highest lowest orders (h.range start none (omega arith)) in
              subst (λ (n : ℕ). n < 12 * 4 ^ lowest) (run.inside start none (omega arith) (omega arith)) below;
        };
        orders = orders;
        sum = λ pixel. ap (total_in pixel highest) (take-add start size pairs) ∙ total_in-append pixel highest (take start pairs) inner;
        lower = λ pixel low high counted.
            let at = pair_in pixel highest (take start pairs) counted in
            let k = at.0 in
            let lt : k < start = omega (arith, at.1, length-take start pairs) in
            let here : (get_or pairs k none).pixel / 4 ^ (highest - pixel.order) ≡ pixel.number = ap (λ (pair : Pair). pair.pixel / 4 ^ (highest - pixel.order)) (sym (get_or-take start pairs k none lt)) ∙ at.2 none in
            let up = up_again highest pixel.order lowest (get_or pairs k none).pixel low high in
            let is : above lowest pixel ≡ (get_or pairs k none).pixel / 4 ^ (highest - lowest) = ap (λ (n : ℕ). n / 4 ^ (pixel.order - lowest)) (sym here) ∙ up in
            let less = parted.lower k start none lt (omega arith) (omega arith) in
            let first = run.inside start none (omega arith) (omega arith) in
            omega (arith, is, less, first);
        inside = λ pixel low high counted.
            let at = pair_in pixel highest inner counted in
            let up = up_again highest pixel.order lowest (get_or inner at.0 none).pixel low high in
            ap (λ (n : ℕ). n / 4 ^ (pixel.order - lowest)) (sym (at.2 none)) ∙ up ∙ inner_inside at.0 none at.1;
        grows = λ pixel. rw run_total (total_in_most pixel highest inner);
      }

-- at the highest order a run is one pair
pub run_at_highest : (pairs : List Pair) (highest threshold number start size : ℕ) → highest ≤ 29 → IsHistogram highest pairs → IsRun 0 number start size pairs → All (λ pair. pair.count ≤ threshold) pairs
    → total_of (take size (drop start pairs)) ≤ threshold
run_at_highest pairs highest threshold number start size most h run fits =
    let inner = take size (drop start pairs) in
    let e : highest - highest ≡ 0 = omega arith in
    let same = subst (λ (s : ℕ). IsRun s number start size pairs) (sym e) run in
    let total = run_total pairs highest highest number start size (omega arith) most h same in
    let g = part_histogram highest pairs start size h in
    let size_is = part_length pairs 0 number start size h.ascending run in
    let some : 0 < length inner = omega (arith, size_is, run.some) in
    let one = count_is_total highest inner 0 none g.ascending some in
    let inside : (get_or inner 0 none).pixel / 1 ≡ number = part_inside pairs 0 number start size h.ascending run 0 none some in
    let first : (get_or inner 0 none).pixel ≡ number = omega (arith, inside) in
    let at = ap (λ (n : ℕ). total_in (record { order = highest; number = n }) highest inner) first in
    let small = All-take (λ pair. pair.count ≤ threshold) size (drop start pairs) (All-drop (λ pair. pair.count ≤ threshold) start pairs fits) in
    omega (arith, total, one, at, small 0 none some)

-- the rest of a list from an index on
pub rest_is : (pairs : List Pair) (start : ℕ) → take (length pairs - start) (drop start pairs) ≡ drop start pairs
rest_is pairs start = take_all (length pairs - start) (drop start pairs) (omega (arith, length-drop start pairs))

pub is_run : (pairs : List Pair) (steps number start size : ℕ) → start ≤ length pairs → 0 < size → size ≤ length (drop start pairs) → All (λ pair. pair.pixel / 4 ^ steps ≡ number) (take size (drop start pairs))
    → ((d : Pair) → size < length (drop start pairs) → (get_or (drop start pairs) size d).pixel / 4 ^ steps ≢ number) → IsRun steps number start size pairs
is_run pairs steps number start size le some within each next =
    let rest = length-drop start pairs in
    let shorter = length-take size (drop start pairs) in
    record {
      some = some;
      within = omega arith;
      inside = λ k d low high.
          let here = each (k - start) d (omega arith) in
          let e : start + (k - start) ≡ k = omega arith in
          let is = get_or-take size (drop start pairs) (k - start) d (omega arith) ∙ get_or-drop start pairs (k - start) d ∙ ap (λ (i : ℕ). get_or pairs i d) e in
          subst (λ (pair : Pair). pair.pixel / 4 ^ steps ≡ number) is here;
      next = λ d lt same. next d (omega arith) (subst (λ (pair : Pair). pair.pixel / 4 ^ steps ≡ number) (sym (get_or-drop start pairs size d)) same);
    }

-- as the code sees the rest
pub is_run_of_rest : (pairs : List Pair) (steps number start size : ℕ) → start ≤ length pairs → 0 < size → size ≤ length (take (length pairs - start) (drop start pairs))
    → All (λ pair. pair.pixel / 4 ^ steps ≡ number) (take size (take (length pairs - start) (drop start pairs)))
    → ((d : Pair) → size < length (take (length pairs - start) (drop start pairs)) → (get_or (take (length pairs - start) (drop start pairs)) size d).pixel / 4 ^ steps ≢ number) → IsRun steps number start size pairs
is_run_of_rest pairs steps number start size le some =
    subst
    (λ (rest : List Pair). size ≤ length rest → All (λ pair. pair.pixel / 4 ^ steps ≡ number) (take size rest) → ((d : Pair) → size < length rest → (get_or rest size d).pixel / 4 ^ steps ≢ number) → IsRun steps number start size pairs)
    (sym (rest_is pairs start)) (is_run pairs steps number start size le some)

-- the pairs of a run can be cut again
pub record Cuttable (order threshold : ℕ) (pairs : List Pair) : Type 0 where
  pub histogram : IsHistogram order pairs
  pub total : total_of pairs < 2 ^ 64
  pub fits : All (λ pair. pair.count ≤ threshold) pairs

pub part_cuttable : (order threshold start size : ℕ) (pairs : List Pair) → Cuttable order threshold pairs → Cuttable order threshold (take size (drop start pairs))
part_cuttable order threshold start size pairs h = record {
  histogram = part_histogram order pairs start size h.histogram;
  total = omega (arith, part_total pairs start size, h.total);
  fits = All-take (λ pair. pair.count ≤ threshold) size (drop start pairs) (All-drop (λ pair. pair.count ≤ threshold) start pairs h.fits);
}

-- a run of more rows than the threshold isn't at the highest order
pub is_below_highest : (pairs : List Pair) (lowest highest threshold number start size : ℕ) → lowest ≤ highest → highest ≤ 29 → Cuttable highest threshold pairs → IsRun (highest - lowest) number start size pairs
    → threshold < total_of (take size (drop start pairs)) → lowest + 1 ≤ highest
is_below_highest pairs lowest highest threshold number start size orders most h run large = elim (cases_eq lowest highest) [
  | inl same ↦
      let e : highest - lowest ≡ 0 = omega arith in
      let few = run_at_highest pairs highest threshold number start size most h.histogram (subst (λ (s : ℕ). IsRun s number start size pairs) e run) h.fits in
      absurd (omega arith)
  | inr off ↦ omega arith
]

-- one more run is planned
module _ (pairs : List Pair) (lowest highest threshold number start size : ℕ) (orders : lowest ≤ highest) (most : highest ≤ 29) (h : IsHistogram highest pairs) (run : IsRun (highest - lowest) number start size pairs)
    (parted : IsParted (highest - lowest) start pairs) (old rows new : List PlanRow) (so_far : AppendsPlan (λ pixel. total_in pixel highest (take start pairs)) lowest highest threshold old rows) where
  joins_here : Joins lowest highest number (λ pixel. total_in pixel highest (take start pairs)) (λ pixel. total_in pixel highest (take size (drop start pairs))) (λ pixel. total_in pixel highest (take (start + size) pairs))
  joins_here = run_joins pairs lowest highest number start size orders most h run parted

  total_is : total_in (record { order = lowest; number = number }) highest (take size (drop start pairs)) ≡ total_of (take size (drop start pairs))
  total_is = run_total pairs lowest highest number start size orders most h run

  some_rows : 1 ≤ total_of (take size (drop start pairs))
  some_rows =
      let g = part_histogram highest pairs start size h in
      let size_is = part_length pairs (highest - lowest) number start size h.ascending run in
      let lt : 0 < length (take size (drop start pairs)) = omega (arith, size_is, run.some) in
      let one = sum_by_more_le (λ (pair : Pair). pair.count) (take size (drop start pairs)) 0 none lt in
      omega (arith, one, g.counted 0 none lt)

  pub appends_whole : (count : ℕ) → count ≡ total_of (take size (drop start pairs)) → count ≤ threshold → new ≡ rows ++ (record { pixel = record { order = lowest; number = number }; count = count }) ∷ []
      → AppendsPlan (λ pixel. total_in pixel highest (take (start + size) pairs)) lowest highest threshold old new
  appends_whole count is fits pushed =
      let same : count ≡ total_in (record { order = lowest; number = number }) highest (take size (drop start pairs)) = is ∙ sym total_is in
      let row : ℕ → PlanRow = λ n. record { pixel = record { order = lowest; number = number }; count = n } in
      record {
        more = so_far.more ++ row (total_in (record { order = lowest; number = number }) highest (take size (drop start pairs))) ∷ [];
        plan = joined_whole lowest highest threshold number (λ pixel. total_in pixel highest (take start pairs)) (λ pixel. total_in pixel highest (take size (drop start pairs)))
            (λ pixel. total_in pixel highest (take (start + size) pairs)) joins_here so_far.more so_far.plan (omega (arith, some_rows, total_is)) (omega (arith, total_is));
        appended = pushed ∙ ap (λ (n : ℕ). rows ++ row n ∷ []) same ∙ ap (λ (front : List PlanRow). front ++ row (total_in (record { order = lowest; number = number }) highest (take size (drop start pairs))) ∷ []) so_far.appended ∙ append_assoc old so_far.more (row (total_in (record { order = lowest; number = number }) highest (take size (drop start pairs))) ∷ []);
      }

  pub appends_cut : threshold < total_of (take size (drop start pairs)) → AppendsPlan (λ pixel. total_in pixel highest (take size (drop start pairs))) (lowest + 1) highest threshold rows new
      → AppendsPlan (λ pixel. total_in pixel highest (take (start + size) pairs)) lowest highest threshold old new
  appends_cut large cut = record {
    more = so_far.more ++ cut.more;
    plan = joined_cut lowest highest threshold number (λ pixel. total_in pixel highest (take start pairs)) (λ pixel. total_in pixel highest (take size (drop start pairs)))
        (λ pixel. total_in pixel highest (take (start + size) pairs)) joins_here so_far.more so_far.plan cut.more (omega (arith, total_is)) cut.plan;
    appended = cut.appended ∙ ap (λ (front : List PlanRow). front ++ cut.more) so_far.appended ∙ append_assoc old so_far.more cut.more;
  }
