-- What is kept: a further row, rows that are too far, and rows in another order.
use Rattle.std.proofs.Common.{◌≡◌, ◌∙◌, ◌∷◌, ◌++◌, [], ◌<◌, ◌≤◌, ◌⊎◌, ℕ, List, true, false, Option, Some, None, Less, Equal, Greater, refl, sym, ap, subst, arith, inl, inr, append_assoc, length, get_or, take, drop, ◌+◌}
use Rattle.std.specs.Prelude.{not}
use Rattle.std.specs.List.{All}
use Rattle.std.specs.List.Sorted.{IsPermutation}
use Rattle.std.specs.Ordering.{is_lt, ordering_then}
use Rattle.std.specs.Cmp.{nat_cmp_is}
use Rattle.std.specs.declared.cmp.Ordering.{Ordering}
use Rattle.std.proofs.lemmas.Bool.{cases_lt}
use Rattle.std.proofs.lemmas.List.{take-append-drop, take_more}
use Rattle.std.proofs.lemmas.List.Elements.{All-append, Contains-append_left}
use Rattle.std.proofs.lemmas.List.Sorted.{IsPermutation-append_comm, IsPermutation-append_right}
use Rattle.hx_base.specs.declared.row.Row.{Row}
use Rattle.hx_base.specs.Chords.{chord2_of}
use Rattle.hx_base.specs.Nearest.{IsNearest, match_cmp, second_if_less, tie_cmp}
use Rattle.hx_base.proofs.NearestRows.{nearest_of_both, nearest_of_one, permuted_nearest}
use Rattle.hx_kd.specs.declared.closest.Closest.{Closest}
use Rattle.hx_kd.specs.Closest.{IsClosestOf, limit_of, stays}
use Rattle.hx_kd.specs.Found.{HasChord, near_of, row_of}

module _ (from : Row) (r2 : ℕ) where
  -- of a row that is nearer, farther, and as far
  nearer_first : (row held : Row) → chord2_of from row < chord2_of from held → match_cmp from row held ≡ Less
  nearer_first row held h = ap (λ o. ordering_then o (tie_cmp row held)) (sym (nat_cmp_is (chord2_of from row) (chord2_of from held) Less h))

  farther_last : (row held : Row) → chord2_of from held < chord2_of from row → match_cmp from row held ≡ Greater
  farther_last row held h = ap (λ o. ordering_then o (tie_cmp row held)) (sym (nat_cmp_is (chord2_of from row) (chord2_of from held) Greater h))

  as_far : (row held : Row) → chord2_of from row ≡ chord2_of from held → match_cmp from row held ≡ tie_cmp row held
  as_far row held h = ap (λ o. ordering_then o (tie_cmp row held)) (sym (nat_cmp_is (chord2_of from row) (chord2_of from held) Equal h))

  not_less : (o : Ordering) → o ≡ Greater → ¬ (o ≡ Less)
  not_less o e h = cc (e, h)

  -- rows beyond the limit change nothing
  beyond : (seen rows : List Row) (found : Option Row) → IsNearest from r2 seen found → All (λ row. limit_of from r2 found < chord2_of from row) rows → IsNearest from r2 (seen ++ rows) found
  beyond seen rows None h far = All-append (λ row. r2 < chord2_of from row) seen rows h far
  beyond seen rows (Some held) h far = record {
    stands = Contains-append_left seen rows held h.stands;
    within = h.within;
    least = All-append (λ row. chord2_of from row ≤ r2 → ¬ (match_cmp from row held ≡ Less)) seen rows h.least
        (λ k d lt close. not_less (match_cmp from (get_or rows k d) held) (farther_last (get_or rows k d) held (far k d lt)));
  }

  pub kept_beyond : (seen rows : List Row) (best : Closest) → IsClosestOf from r2 seen best → All (λ row. best.limit < chord2_of from row) rows → IsClosestOf from r2 (seen ++ rows) best
  kept_beyond seen rows best h far =
      record { nearest = beyond seen rows best.found h.nearest (subst (λ (n : ℕ). All (λ row. n < chord2_of from row) rows) h.limit far); limit = h.limit }

  -- one row more, where another was found
  one_more : (seen : List Row) (row held : Row) (o : Ordering) → match_cmp from row held ≡ o → chord2_of from row ≤ r2 → IsNearest from r2 seen (Some held) → IsNearest from r2 (seen ++ row ∷ []) (Some (second_if_less o held row))
  one_more seen row held o e close h =
      subst (λ (o : Ordering). IsNearest from r2 (seen ++ row ∷ []) (Some (second_if_less o held row))) e
      (nearest_of_both from r2 seen (row ∷ []) (Some held) (Some row) h (nearest_of_one from r2 row close))

  is_less : (o : Ordering) → not (is_lt o) ≡ false → o ≡ Less
  is_less Less e = refl
  is_less Equal e = cc e
  is_less Greater e = cc e

  first_stays : (o : Ordering) (held row : Row) → not (is_lt o) ≡ true → second_if_less o held row ≡ held
  first_stays Less held row e = cc e
  first_stays Equal held row e = refl
  first_stays Greater held row e = refl

  taken : (seen : List Row) (row : Row) (found : Option Row) → chord2_of from row ≤ r2 → IsNearest from r2 seen found
      → (chord2_of from row < limit_of from r2 found) ⊎ ((chord2_of from row ≡ limit_of from r2 found) × (stays found row ≡ false)) → IsNearest from r2 (seen ++ row ∷ []) (Some row)
  taken seen row None close h t = nearest_of_both from r2 seen (row ∷ []) None (Some row) h (nearest_of_one from r2 row close)
  taken seen row (Some held) close h (inl less) = one_more seen row held Less (nearer_first row held less) close h
  taken seen row (Some held) close h (inr tied) = one_more seen row held Less (as_far row held tied.0 ∙ is_less (tie_cmp row held) tied.1) close h

  within_radius : (seen : List Row) (found : Option Row) → IsNearest from r2 seen found → limit_of from r2 found ≤ r2
  within_radius seen None h = omega arith
  within_radius seen (Some held) h = h.within

  pub kept_taken : (seen : List Row) (row : Row) (best : Closest) → chord2_of from row ≤ best.limit → IsClosestOf from r2 seen best
      → (chord2_of from row < best.limit) ⊎ (stays best.found row ≡ false) → IsClosestOf from r2 (seen ++ row ∷ []) (record { limit = chord2_of from row; found = Some row })
  kept_taken seen row best le h t =
      let is = h.limit in
      let small = within_radius seen best.found h.nearest in
      record { nearest = taken seen row best.found (omega (arith, le, is, small)) h.nearest (cases t); limit = refl }
    where
      cases : (chord2_of from row < best.limit) ⊎ (stays best.found row ≡ false) → (chord2_of from row < limit_of from r2 best.found) ⊎ ((chord2_of from row ≡ limit_of from r2 best.found) × (stays best.found row ≡ false))
      cases (inl less) = let is = h.limit in inl (omega (arith, less, is))
      cases (inr s) =
          let is = h.limit in
          elim (cases_lt (chord2_of from row) (limit_of from r2 best.found)) [
            | inl less ↦ inl less
            | inr more ↦ inr (omega (arith, le, is, more), s)
          ]

  held_on : (seen : List Row) (row : Row) (found : Option Row) → IsNearest from r2 seen found → chord2_of from row ≡ limit_of from r2 found → stays found row ≡ true → IsNearest from r2 (seen ++ row ∷ []) found
  held_on seen row None h e s = cc s
  held_on seen row (Some held) h e s =
      let near = h.within in
      subst (λ (r : Row). IsNearest from r2 (seen ++ row ∷ []) (Some r)) (first_stays (tie_cmp row held) held row s)
      (one_more seen row held (tie_cmp row held) (as_far row held e) (omega (arith, near, e)) h)

  pub kept_held : (seen : List Row) (row : Row) (best : Closest) → chord2_of from row ≡ best.limit → IsClosestOf from r2 seen best → stays best.found row ≡ true → IsClosestOf from r2 (seen ++ row ∷ []) best
  kept_held seen row best e h s = record { nearest = held_on seen row best.found h.nearest (e ∙ h.limit) s; limit = h.limit }

  -- the next row of a list, and the last
  pub kept_next : (seen rows : List Row) (i : ℕ) (d : Row) (best : Closest) → i < length rows → IsClosestOf from r2 ((seen ++ take i rows) ++ get_or rows i d ∷ []) best → IsClosestOf from r2 (seen ++ take (i + 1) rows) best
  kept_next seen rows i d best lt h = subst (λ (xs : List Row). IsClosestOf from r2 xs best) (append_assoc seen (take i rows) (get_or rows i d ∷ []) ∙ ap (λ xs. seen ++ xs) (sym (take_more rows i d lt))) h

  -- the two parts of a list, one after another
  pub in_order : (seen rows : List Row) (n : ℕ) (best : Closest) → IsClosestOf from r2 ((seen ++ take n rows) ++ drop n rows) best → IsClosestOf from r2 (seen ++ rows) best
  in_order seen rows n best h = subst (λ (xs : List Row). IsClosestOf from r2 xs best) (append_assoc seen (take n rows) (drop n rows) ∙ ap (λ xs. seen ++ xs) (take-append-drop n rows)) h

  pub out_of_order : (seen rows : List Row) (n : ℕ) (best : Closest) → IsClosestOf from r2 ((seen ++ drop n rows) ++ take n rows) best → IsClosestOf from r2 (seen ++ rows) best
  out_of_order seen rows n best h =
      in_order seen rows n best (record {
        nearest = permuted_nearest from r2 ((seen ++ drop n rows) ++ take n rows) ((seen ++ take n rows) ++ drop n rows) best.found moved h.nearest;
        limit = h.limit;
      })
    where
      moved : IsPermutation ((seen ++ drop n rows) ++ take n rows) ((seen ++ take n rows) ++ drop n rows)
      moved =
          rw (append_assoc seen (drop n rows) (take n rows), append_assoc seen (take n rows) (drop n rows))
          (IsPermutation-append_right seen (drop n rows ++ take n rows) (take n rows ++ drop n rows) (IsPermutation-append_comm (drop n rows) (take n rows)))

  -- what is answered
  pub told : (rows : List Row) (limit : ℕ) (found : Option Row) → IsNearest from r2 rows found → IsNearest from r2 rows (row_of (near_of limit found))
  told rows limit None h = h
  told rows limit (Some row) h = h

  pub told_chord : (limit : ℕ) (found : Option Row) → limit ≡ limit_of from r2 found → HasChord from (near_of limit found)
  told_chord limit None e = tt
  told_chord limit (Some row) e = e
