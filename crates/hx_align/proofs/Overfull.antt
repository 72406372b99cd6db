-- The first pair above the threshold is that of the first overfull pixel.
use Rattle.std.proofs.Common.{◌≡◌, ◌-◌, ◌/◌, ◌^◌, ◌<◌, ◌≤◌, ◌∷◌, [], ℕ, List, Bool, true, false, zero, suc, length, sym, ap, arith, inl, inr, get_or, ltb, Option, Some, None, subst}
use Rattle.std.specs.List.{All, find}
use Rattle.std.specs.Prelude.{IfNone, IfSome}
use Rattle.std.proofs.lemmas.Bool.{cases_Bool, cases_order, ltb-true, ltb-false}
use Rattle.hx_base.specs.declared.pixel.Pixel.{Pixel}
use Rattle.hx_base.specs.Partitions.{IsFirstOverfull, IsOverfull, NothingOverfull}
use Rattle.hx_hist.specs.Histograms.{IsHistogram, total_in}
use Rattle.hx_hist.specs.declared.hist.Pair.{Pair}
use Rattle.hx_hist.proofs.Totals.{count_is_total, pair_in}

-- the index of the first element that passes
record FirstAt (test : Pair → Bool) (xs : List Pair) (x : Pair) : Type 0 where
  k : ℕ
  within : k < length xs
  is : (d : Pair) → get_or xs k d ≡ x
  passes : test x ≡ true
  before : (j : ℕ) (d : Pair) → j < k → test (get_or xs j d) ≡ false

first_at : (test : Pair → Bool) (xs : List Pair) (x : Pair) → find test xs ≡ Some x → FirstAt test xs x
first_at test [] x h = absurd (cc)
first_at test (y ∷ ys) x h = elim (cases_Bool (test y)) [
  | inl passes ↦
      let e : Some y ≡ Some x = rw passes at h in
      let same : y ≡ x = cc in
      record { k = 0; within = omega arith; is = λ d. same; passes = subst (λ (z : Pair). test z ≡ true) same passes; before = λ j d lt. absurd (omega arith) }
  | inr fails ↦
      let rest = first_at test ys x (rw fails at h) in
      record { k = suc rest.k; within = omega (arith, rest.within); is = rest.is; passes = rest.passes; before = earlier test y ys rest.k fails rest.before }
] where
  earlier : (test : Pair → Bool) (y : Pair) (ys : List Pair) (k : ℕ) → test y ≡ false → ((j : ℕ) (d : Pair) → j < k → test (get_or ys j d) ≡ false) → (j : ℕ) (d : Pair) → j < suc k → test (get_or (y ∷ ys) j d) ≡ false
  earlier test y ys k fails before zero d lt = fails
  earlier test y ys k fails before (suc j) d lt = before j d (omega arith)

none_pass : (test : Pair → Bool) (xs : List Pair) → find test xs ≡ None → (k : ℕ) (d : Pair) → k < length xs → test (get_or xs k d) ≡ false
none_pass test [] h k d lt = absurd (omega (arith, lt))
none_pass test (y ∷ ys) h zero d lt = elim (cases_Bool (test y)) [
  | inl passes ↦ absurd (let e : Some y ≡ None = rw passes at h in cc)
  | inr fails ↦ fails
]
none_pass test (y ∷ ys) h (suc k) d lt = elim (cases_Bool (test y)) [
  | inl passes ↦ absurd (let e : Some y ≡ None = rw passes at h in cc)
  | inr fails ↦ none_pass test ys (rw fails at h) k d (omega (arith, lt))
]

module _ (order threshold : ℕ) (pairs : List Pair) (h : IsHistogram order pairs) where
  abbrev count : Pixel → ℕ
  count pixel = total_in pixel order pairs

  abbrev above : Pair → Bool
  above pair = ltb threshold pair.count

  -- a pair of an overfull pixel
  record Over (number : ℕ) : Type 0 where
    k : ℕ
    within : k < length pairs
    pixel : (d : Pair) → (get_or pairs k d).pixel ≡ number
    more : (d : Pair) → threshold < (get_or pairs k d).count

  pair_of : (number : ℕ) → IsOverfull count order threshold number → Over number
  pair_of number over =
      let at = pair_in (record { order = order; number = number }) order pairs (omega (arith, over.more)) in
      let e : order - order ≡ 0 = omega arith in
      let is = λ (d : Pair).
      let here : (get_or pairs at.0 d).pixel / 1 ≡ number = subst (λ (s : ℕ). (get_or pairs at.0 d).pixel / 4 ^ s ≡ number) e (at.2 d) in
      let same : (get_or pairs at.0 d).pixel ≡ number = omega (arith, here) in
      same in
      record {
        k = at.0;
        within = at.1;
        pixel = is;
        more = λ d.
            let total = count_is_total order pairs at.0 d h.ascending at.1 in
            let same = ap (λ (n : ℕ). total_in (record { order = order; number = n }) order pairs) (is d) in
            omega (arith, total, same, over.more);
      }

  over_at : (k : ℕ) (d : Pair) → k < length pairs → threshold < (get_or pairs k d).count → IsOverfull count order threshold (get_or pairs k d).pixel
  over_at k d lt more = record { exists = h.range k d lt; more = omega (arith, count_is_total order pairs k d h.ascending lt) }

  first_is : (pair : Pair) → FirstAt above pairs pair → IsFirstOverfull count order threshold pair.pixel
  first_is pair at =
      let here = at.is pair in
      let more : threshold < pair.count = ltb-true _ _ at.passes in
      record {
        overfull = subst (λ (p : Pair). IsOverfull count order threshold p.pixel) here (over_at at.k pair at.within (subst (λ (p : Pair). threshold < p.count) (sym here) more));
        first = λ lower lt over.
            let other = pair_of lower over in
            let pixel = other.pixel pair in
            let mine : (get_or pairs at.k pair).pixel ≡ pair.pixel = ap (λ (p : Pair). p.pixel) here in
            elim (cases_order other.k at.k) [
              | inl same ↦
                  let both = ap (λ (k : ℕ). (get_or pairs k pair).pixel) same in
                  absurd (omega (arith, pixel, mine, both, lt))
              | inr (inl before) ↦
                  let fails = ltb-false threshold (get_or pairs other.k pair).count (at.before other.k pair before) in
                  absurd (omega (arith, fails, other.more pair))
              | inr (inr behind) ↦
                  let up = h.ascending at.k other.k pair behind other.within in
                  absurd (omega (arith, up, pixel, mine, lt))
            ];
      }

  -- what is found is first, with its count; where nothing is found, nothing is overfull
  pub found_first : (r : Option Pair) → r ≡ find above pairs → IfSome r (λ pair. IsFirstOverfull count order threshold pair.pixel)
  found_first None e = tt
  found_first (Some pair) e = first_is pair (first_at above pairs pair (sym e))

  pub found_count : (r : Option Pair) → r ≡ find above pairs → IfSome r (λ pair. pair.count ≡ total_in (record { order = order; number = pair.pixel }) order pairs)
  found_count None e = tt
  found_count (Some pair) e =
      let at = first_at above pairs pair (sym e) in
      let total = count_is_total order pairs at.k pair h.ascending at.within in
      subst (λ (p : Pair). p.count ≡ total_in (record { order = order; number = p.pixel }) order pairs) (at.is pair) (sym total)

  all_fit : find above pairs ≡ None → All (λ pair. pair.count ≤ threshold) pairs
  all_fit e = λ k d lt. ltb-false threshold (get_or pairs k d).count (none_pass above pairs e k d lt)

  pub found_none : (r : Option Pair) → r ≡ find above pairs → IfNone r (All (λ pair. pair.count ≤ threshold) pairs)
  found_none None e = all_fit (sym e)
  found_none (Some pair) e = tt

  none_over : find above pairs ≡ None → NothingOverfull count order threshold
  none_over e = λ number over.
      let other = pair_of number over in
      let d : Pair = record { pixel = 0; count = 0 } in
      absurd (omega (arith, all_fit e other.k d other.within, other.more d))

  pub found_nothing : (r : Option Pair) → r ≡ find above pairs → IfNone r (NothingOverfull count order threshold)
  found_nothing None e = none_over (sym e)
  found_nothing (Some pair) e = tt
