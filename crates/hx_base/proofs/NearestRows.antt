-- The nearest row: there is one at most, and of all lists that have the same rows within the radius it is the same.
use Rattle.std.proofs.Common.{◌≡◌, ◌∙◌, ◌∷◌, ◌++◌, [], ◌<◌, ◌≤◌, ℕ, List, Option, Some, None, Contains, Less, Equal, Greater, get_or, refl, sym, ap, subst, arith, inl, inr, append-nil, append_assoc}
use Rattle.std.specs.Prelude.{◌↔◌}
use Rattle.std.specs.List.{All, AllZip, flat_map, fold}
use Rattle.std.specs.List.Sorted.{IsPermutation}
use Rattle.std.specs.Ordering.{ordering_reverse}
use Rattle.std.specs.declared.cmp.Ordering.{Ordering}
use Rattle.std.proofs.lemmas.Bool.{cases_lt}
use Rattle.std.proofs.lemmas.List.Elements.{All-append, All-cons, All-contains, All-contains_itself, All-nil, Contains-append_cases, Contains-append_left, Contains-append_right}
use Rattle.std.proofs.lemmas.List.Sorted.{Contains-permutation, IsPermutation-sym}
use Rattle.hx_base.specs.declared.row.Row.{Row}
use Rattle.hx_base.specs.Chords.{chord2_of}
use Rattle.hx_base.specs.Nearest.{IsNearest, SameWithin, match_cmp, nearer_of, second_if_less}
use Rattle.hx_base.proofs.MatchOrder.{match_cases, match_exact, match_total, not_before_itself}

module _ (from : Row) (r2 : ℕ) where
  -- a row within the radius is not before the best
  abbrev Least : Row → Row → Type 0
  Least best row = chord2_of from row ≤ r2 → ¬ (match_cmp from row best ≡ Less)

  abbrev Beyond : Row → Type 0
  Beyond row = r2 < chord2_of from row

  pub one_nearest : (rows : List Row) (a b : Option Row) → IsNearest from r2 rows a → IsNearest from r2 rows b → a ≡ b
  one_nearest rows None None h g = refl
  one_nearest rows None (Some b) h g = absurd (let far = All-contains Beyond rows b h g.stands in let near = g.within in omega (arith, far, near))
  one_nearest rows (Some a) None h g = absurd (let far = All-contains Beyond rows a g h.stands in let near = h.within in omega (arith, far, near))
  one_nearest rows (Some a) (Some b) h g =
      elim (match_cases from a b) [
        | inl less ↦ absurd (All-contains (Least b) rows a g.least h.stands h.within less)
        | inr (inl same) ↦ ap Some same
        | inr (inr less) ↦ absurd (All-contains (Least a) rows b h.least g.stands g.within less)
      ]

  pub same_nearest : (rows others : List Row) (found : Option Row) → SameWithin from r2 rows others → IsNearest from r2 rows found → IsNearest from r2 others found
  same_nearest rows others None same h = λ k d lt.
      let row = get_or others k d in
      elim (cases_lt r2 (chord2_of from row)) [
        | inl far ↦ far
        | inr close ↦ All-contains Beyond rows row h (same.back row (All-contains_itself others k d lt) close)
      ]
  same_nearest rows others (Some best) same h = record {
    stands = same.there best h.stands h.within;
    within = h.within;
    least = λ k d lt close. let row = get_or others k d in All-contains (Least best) rows row h.least (same.back row (All-contains_itself others k d lt) close) close;
  }

  pub repeated_nearest : (rows others : List Row) (found : Option Row) → ((row : Row) → Contains rows row ↔ Contains others row) → IsNearest from r2 rows found → IsNearest from r2 others found
  repeated_nearest rows others found same = same_nearest rows others found (record { there = λ row h close. (same row).0 h; back = λ row h close. (same row).1 h })

  pub permuted_nearest : (rows others : List Row) (found : Option Row) → IsPermutation rows others → IsNearest from r2 rows found → IsNearest from r2 others found
  permuted_nearest rows others found moved =
      repeated_nearest rows others found (λ row. (λ h. Contains-permutation rows others row moved h, λ h. Contains-permutation others rows row (IsPermutation-sym rows others moved) h))

  -- a list without rows within the radius changes nothing
  left_idle : (rows others : List Row) → All Beyond rows → SameWithin from r2 others (rows ++ others)
  left_idle rows others far = record {
    there = λ row h close. Contains-append_right rows others row h;
    back = λ row h close. elim (Contains-append_cases rows others row h) [
      | inl first ↦ absurd (let beyond = All-contains Beyond rows row far first in omega (arith, beyond, close))
      | inr second ↦ second
    ];
  }

  right_idle : (rows others : List Row) → All Beyond others → SameWithin from r2 rows (rows ++ others)
  right_idle rows others far = record {
    there = λ row h close. Contains-append_left rows others row h;
    back = λ row h close. elim (Contains-append_cases rows others row h) [
      | inl first ↦ first
      | inr second ↦ absurd (let beyond = All-contains Beyond others row far second in omega (arith, beyond, close))
    ];
  }

  -- what is not before one is not before a row before that
  least_before : (a b : Row) (rows : List Row) → match_cmp from b a ≡ Less → All (Least a) rows → All (Least b) rows
  least_before a b rows less h = λ k d lt close before. h k d lt close ((match_total from).trans (get_or rows k d) b a before less)

  better : (a b : Row) (rows others : List Row) (o : Ordering) → match_cmp from b a ≡ o → IsNearest from r2 rows (Some a) → IsNearest from r2 others (Some b) → IsNearest from r2 (rows ++ others) (Some (second_if_less o a b))
  better a b rows others Less e h g = record {
    stands = Contains-append_right rows others b g.stands;
    within = g.within;
    least = All-append (Least b) rows others (least_before a b rows e h.least) g.least;
  }
  better a b rows others Equal e h g =
      let same = match_exact from b a e in
      record {
        stands = Contains-append_left rows others a h.stands;
        within = h.within;
        least = All-append (Least a) rows others h.least (subst (λ (r : Row). All (Least r) others) same g.least);
      }
  better a b rows others Greater e h g =
      let less : match_cmp from a b ≡ Less = (match_total from).antisymm a b ∙ ap ordering_reverse e in
      record {
        stands = Contains-append_left rows others a h.stands;
        within = h.within;
        least = All-append (Least a) rows others h.least (least_before b a others less g.least);
      }

  pub nearest_of_both : (rows others : List Row) (a b : Option Row) → IsNearest from r2 rows a → IsNearest from r2 others b → IsNearest from r2 (rows ++ others) (nearer_of from a b)
  nearest_of_both rows others None b h g = same_nearest others (rows ++ others) b (left_idle rows others h) g
  nearest_of_both rows others (Some a) None h g = same_nearest rows (rows ++ others) (Some a) (right_idle rows others g) h
  nearest_of_both rows others (Some a) (Some b) h g = better a b rows others (match_cmp from b a) refl h g

  pub nearest_of_one : (row : Row) → chord2_of from row ≤ r2 → IsNearest from r2 (row ∷ []) (Some row)
  nearest_of_one row close = record {
    stands = (0, omega arith, refl);
    within = close;
    least = All-cons (Least row) row [] (λ c. not_before_itself from row) (All-nil (Least row));
  }

  one_row : (row : Row) → (found : Option Row) × IsNearest from r2 (row ∷ []) found
  one_row row =
      elim (cases_lt r2 (chord2_of from row)) [
        | inl far ↦ (None, All-cons Beyond row [] far (All-nil Beyond))
        | inr close ↦ (Some row, nearest_of_one row close)
      ]

  pub some_nearest : (rows : List Row) → (found : Option Row) × IsNearest from r2 rows found
  some_nearest [] = (None, All-nil Beyond)
  some_nearest (row ∷ rows) =
      let first = one_row row in
      let rest = some_nearest rows in
      (nearer_of from first.0 rest.0, nearest_of_both (row ∷ []) rows first.0 rest.0 first.1 rest.1)

  -- pieces one after another, each with its own nearest
  onwards : (done : List Row) (so_far : Option Row) (pieces : List (List Row)) (answers : List (Option Row)) → IsNearest from r2 done so_far → AllZip (IsNearest from r2) pieces answers
      → IsNearest from r2 (done ++ flat_map (λ piece. piece) pieces) (fold (nearer_of from) so_far answers)
  onwards done so_far [] [] h each = subst (λ (rows : List Row). IsNearest from r2 rows so_far) (sym (append-nil done)) h
  onwards done so_far [] (a ∷ answers) h each = elim each [ ]
  onwards done so_far (p ∷ pieces) [] h each = elim each [ ]
  onwards done so_far (p ∷ pieces) (a ∷ answers) h each =
      let next = onwards (done ++ p) (nearer_of from so_far a) pieces answers (nearest_of_both done p so_far a h each.0) each.1 in
      subst (λ (rows : List Row). IsNearest from r2 rows (fold (nearer_of from) (nearer_of from so_far a) answers)) (append_assoc done p (flat_map (λ piece. piece) pieces)) next

  pub nearest_of_pieces : (pieces : List (List Row)) (answers : List (Option Row)) → AllZip (IsNearest from r2) pieces answers → IsNearest from r2 (flat_map (λ piece. piece) pieces) (fold (nearer_of from) None answers)
  nearest_of_pieces pieces answers each = onwards [] None pieces answers (All-nil Beyond) each
