-- Rows of a part that come in order.
use Rattle.std.proofs.Common.{◌≡◌, ◌∙◌, ◌+◌, ◌*◌, ◌<◌, ◌∷◌, ◌++◌, ◌&&◌, [], ℕ, List, Bool, true, false, Ok, Err, Option, Some, None, length, refl, ap, arith, inl, inr, drop, get_or, take}
use Rattle.std.specs.List.{All, list_all}
use Rattle.std.specs.List.Sorted.{IsSorted}
use Rattle.std.proofs.lemmas.List.{get_or-take, length-take}
use Rattle.std.proofs.lemmas.List.Sums.{AllPass-from_list_all}
use Rattle.std.specs.Ordering.{is_gt, is_le, is_lt, ordering_reverse}
use Rattle.std.specs.declared.cmp.Ordering.{Ordering}
use Rattle.std.specs.declared.cmp.Ordering.TheVariants.{Less, Equal, Greater}
use Rattle.std.proofs.Math.Path.{fun_ext}
use Rattle.std.proofs.lemmas.Bool.{and_parts, cases_Bool, leb-true, ltb-true}
use Rattle.std.proofs.lemmas.Cmp.{upto}
use Rattle.std.proofs.lemmas.List.Folds.{list_all-append}
use Rattle.hx_base.proofs.RowOrder.{rows_total}
use Rattle.hx_base.specs.Rows.{IsGood, row_cmp}
use Rattle.hx_base.specs.declared.row.Row.{Row}
use Rattle.hx_base.specs.declared.refusal.SpillRefusal.{SpillRefusal}
use Rattle.hx_spill.specs.Items.{Read, each}
use Rattle.hx_spill.specs.Splits.{is_good, looked_at, may_follow, row_at, row_behind, row_from}
use Rattle.hx_spill.proofs.Each.{each-length, each-next, item-keeps, item-value}

not_above : (o : Ordering) → is_le o ≡ true → is_gt o ≡ false
not_above Less is = refl
not_above Equal is = refl
not_above Greater is = cc is

at_most : (o : Ordering) → is_gt o ≡ false → is_le o ≡ true
at_most Less is = refl
at_most Equal is = refl
at_most Greater is = cc is

-- rows at most one are at most each above it
le_trans : (a b c : Row) → is_le (row_cmp a b) ≡ true → is_le (row_cmp b c) ≡ true → is_le (row_cmp a c) ≡ true
le_trans a b c ab bc = at_most (row_cmp a c) (upto rows_total a b c (not_above (row_cmp a b) ab) (not_above (row_cmp b c) bc))

either : (last : Option Row) (row next : Row) → may_follow last row ≡ true → (may_follow last next && (is_le (row_cmp row next) && true)) ≡ is_le (row_cmp row next)
either None row next may = with_true (is_le (row_cmp row next))
  where
    with_true : (b : Bool) → (true && (b && true)) ≡ b
    with_true true = refl
    with_true false = refl
either (Some last) row next may =
    elim (cases_Bool (is_le (row_cmp row next))) [
      | inl is ↦ rw (is, le_trans last row next may is) refl
      | inr not ↦ rw not (never (is_le (row_cmp last next)))
    ]
  where
    never : (b : Bool) → (b && (false && true)) ≡ false
    never true = refl
    never false = refl

pub next_follows : (rows : List Row) (row : Row) (last : Option Row) → may_follow last row ≡ true → ((next : Row) → list_all (λ other. is_le (row_cmp other next)) rows ≡ may_follow last next)
    → (next : Row) → list_all (λ other. is_le (row_cmp other next)) (rows ++ row ∷ []) ≡ may_follow (Some row) next
next_follows rows row last may follow next =
    list_all-append (λ other. is_le (row_cmp other next)) rows (row ∷ []) ∙ rw (follow next) (either last row next may)

pub same_row : (i start at : ℕ) (bytes : List ℕ) (rows : List Row) (last : Option Row) → each i (row_behind start bytes) ≡ Ok rows → at ≡ start + 28 * i
    → ((next : Row) → list_all (λ other. is_le (row_cmp other next)) rows ≡ may_follow last next) → row_behind start bytes rows ≡ row_at (λ row. may_follow last row) at bytes
same_row i start at bytes rows last read place follow =
    let number = each-length (row_behind start bytes) i rows read in
    let here : start + 28 * length rows ≡ at = omega (arith, number, place) in
    ap (λ (keeps : Row → Bool). row_at keeps (start + 28 * length rows) bytes) (fun_ext follow) ∙ ap (λ (p : ℕ). row_at (λ row. may_follow last row) p bytes) here

pub looked_ok : {X : Type 0} (read : Read X) (x : X) → read ≡ Ok x → looked_at read ≡ Ok tt
looked_ok read x is = rw is refl

pub looked_err : {X : Type 0} (read : Read X) (refused : SpillRefusal) → read ≡ Err refused → looked_at read ≡ Err refused
looked_err read refused is = rw is refl

lt_turned : (o : Ordering) → is_le o ≡ true → is_lt (ordering_reverse o) ≡ false
lt_turned Less is = refl
lt_turned Equal is = refl
lt_turned Greater is = cc is

not_below : (a b : Row) → is_le (row_cmp a b) ≡ true → is_lt (row_cmp b a) ≡ false
not_below a b is = rw (rows_total.antisymm b a) (lt_turned (row_cmp a b) is)

module _ (n start : ℕ) (bytes : List ℕ) (rows : List Row) (read : each n (row_behind start bytes) ≡ Ok rows) where
  tests : (k : ℕ) (d : Row) → k < length rows → (is_good (get_or rows k d) && list_all (λ other. is_le (row_cmp other (get_or rows k d))) (take k rows)) ≡ true
  unfolding row_at
  tests k d within =
      let number = each-length (row_behind start bytes) n rows read in
      item-keeps 28 row_from (λ row. is_good row && list_all (λ other. is_le (row_cmp other row)) (take k rows)) (start + 28 * length (take k rows)) bytes (get_or rows k d)
      (each-next (row_behind start bytes) n k rows d (omega (arith, number, within)) read)

  pub all_good : All IsGood rows
  all_good k d within =
      let parts = and_parts _ _ (and_parts _ _ (tests k d within)).0 in
      let length_tests = and_parts _ _ parts.1 in
      record { pixel = ltb-true _ _ parts.0; no_longer = leb-true _ _ length_tests.0; no_shorter = leb-true _ _ length_tests.1 }

  pub all_sorted : IsSorted row_cmp rows
  all_sorted k d low within =
      let all = (and_parts _ _ (tests (k + 1) d within)).1 in
      let short : k < length (take (k + 1) rows) = omega (arith, length-take (k + 1) rows, within) in
      let one = AllPass-from_list_all (λ other. is_le (row_cmp other (get_or rows (k + 1) d))) (take (k + 1) rows) all k d short in
      let here : get_or (take (k + 1) rows) k d ≡ get_or rows k d = get_or-take (k + 1) rows k d (omega arith) in
      not_below (get_or rows k d) (get_or rows (k + 1) d) (rw here at one)

  pub each_stands : (k : ℕ) (d : Row) → k < n → get_or rows k d ≡ row_from (drop (start + 28 * k) bytes)
  unfolding row_at
  each_stands k d lt =
      let number = each-length (row_behind start bytes) n rows read in
      let place : start + 28 * length (take k rows) ≡ start + 28 * k = omega (arith, length-take k rows, number, lt) in
      item-value 28 row_from (λ row. is_good row && list_all (λ other. is_le (row_cmp other row)) (take k rows)) (start + 28 * length (take k rows)) bytes (get_or rows k d)
      (each-next (row_behind start bytes) n k rows d lt read)
      ∙ ap (λ (p : ℕ). row_from (drop p bytes)) place
