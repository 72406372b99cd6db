-- The lines of left rows one after another, and where other right rows give the same lines.
use Rattle.std.proofs.Common.{◌≡◌, ◌∙◌, ◌≤◌, ◌<◌, ◌+◌, inl, inr, ◌++◌, ◌∷◌, [], ℕ, List, Bool, true, false, Option, Some, None, pos, cond, take, get_or, append-nil, append_assoc, filter, length, Contains, refl, sym, ap, arith, length-append}
use Rattle.std.specs.Prelude.{is_some}
use Rattle.std.proofs.lemmas.Bool.{cases_Bool}
use Rattle.std.proofs.lemmas.Grind.{flat_map-append}
use Rattle.std.proofs.lemmas.List.{take_more}
use Rattle.std.proofs.lemmas.List.Elements.{filter-append}
use Rattle.hx_base.specs.declared.row.Row.{Row}
use Rattle.hx_cover.proofs.Members.{member_first, member_later}
use Rattle.hx_kd.specs.Found.{row_of}
use Rattle.hx_kd.specs.declared.tree.Near.{Near}
use Rattle.hx_xmatch.specs.MatchText.{match_line, match_lines, matched_rows, nearest_of}

-- the row that stands where a list has none
abbrev pub no_row : Row
no_row = record { hp = 0; id = pos 0; x = pos 0; y = pos 0; z = pos 0 }

module _ (r2 : ℕ) where
  pub lines_append : (right front back : List Row) → match_lines r2 right (front ++ back) ≡ match_lines r2 right front ++ match_lines r2 right back
  lines_append right front back = flat_map-append (λ row. match_line row (nearest_of row r2 right)) front back

  pub matched_append : (right front back : List Row) → matched_rows r2 right (front ++ back) ≡ matched_rows r2 right front + matched_rows r2 right back
  matched_append right front back =
      let test = λ (row : Row). is_some (nearest_of row r2 right) in
      ap length (filter-append test front back) ∙ length-append (filter test front) (filter test back)

  -- each of some rows has the same match among others
  abbrev pub SameMatches : List Row → List Row → List Row → Type 0
  SameMatches read right rows = (row : Row) → Contains rows row → nearest_of row r2 read ≡ nearest_of row r2 right

  later : (read right : List Row) (row : Row) (rows : List Row) → SameMatches read right (row ∷ rows) → SameMatches read right rows
  later read right row rows same other h = same other (member_later row other rows h)

  pub lines_same : (read right rows : List Row) → SameMatches read right rows → match_lines r2 read rows ≡ match_lines r2 right rows
  lines_same read right [] same = refl
  lines_same read right (row ∷ rows) same =
      ap (λ (found : Option Row). match_line row found ++ match_lines r2 read rows) (same row (member_first row rows))
      ∙ ap (λ (text : List ℕ). match_line row (nearest_of row r2 right) ++ text) (lines_same read right rows (later read right row rows same))

  counted : (b c : Bool) (rows others : List Row) (row : Row) → b ≡ c → length rows ≡ length others → length (cond b (row ∷ rows) rows) ≡ length (cond c (row ∷ others) others)
  counted b c rows others row same rest = elim (cases_Bool c) [
    | inl e ↦ rw (same, e) (omega (arith, rest))
    | inr e ↦ rw (same, e) rest
  ]

  pub matched_same : (read right rows : List Row) → SameMatches read right rows → matched_rows r2 read rows ≡ matched_rows r2 right rows
  matched_same read right [] same = refl
  matched_same read right (row ∷ rows) same =
      counted (is_some (nearest_of row r2 read)) (is_some (nearest_of row r2 right)) _ _ row
      (ap (λ (found : Option Row). is_some found) (same row (member_first row rows)))
      (matched_same read right rows (later read right row rows same))

  kept_few : (test : Row → Bool) (rows : List Row) → length (filter test rows) ≤ length rows
  kept_few test [] = omega arith
  kept_few test (row ∷ rows) =
      let rest = kept_few test rows in
      elim (cases_Bool (test row)) [ inl e ↦ rw e (omega (arith, rest)) | inr e ↦ rw e (omega (arith, rest)) ]

  pub matched_few : (right rows : List Row) → matched_rows r2 right rows ≤ length rows
  matched_few right rows = kept_few (λ row. is_some (nearest_of row r2 right)) rows

-- the line of one row, and whether it has a match
pub one_line : (row : Row) (r2 : ℕ) (right : List Row) (found : Option Row) → found ≡ nearest_of row r2 right → match_line row found ≡ match_lines r2 right (row ∷ [])
one_line row r2 right found is = ap (λ (o : Option Row). match_line row o) is ∙ sym (append-nil (match_line row (nearest_of row r2 right)))

matched_one : (row : Row) (r2 : ℕ) (right : List Row) (b : Bool) → is_some (nearest_of row r2 right) ≡ b → matched_rows r2 right (row ∷ []) ≡ cond b 1 0
matched_one row r2 right true is = rw is refl
matched_one row r2 right false is = rw is refl

pub one_matched : (row : Row) (r2 : ℕ) (right : List Row) (near : Option Near) → row_of near ≡ nearest_of row r2 right → matched_rows r2 right (row ∷ []) ≡ cond (is_some near) 1 0
one_matched row r2 right None is = matched_one row r2 right false (ap (λ (o : Option Row). is_some o) (sym is))
one_matched row r2 right (Some near) is = matched_one row r2 right true (ap (λ (o : Option Row). is_some o) (sym is))

-- one row more
pub lines_more : (r2 : ℕ) (right rows : List Row) (i : ℕ) (d : Row) (start text new : List ℕ) → i < length rows
    → text ≡ start ++ match_lines r2 right (take i rows) → new ≡ text ++ match_lines r2 right (get_or rows i d ∷ []) → new ≡ start ++ match_lines r2 right (take (i + 1) rows)
lines_more r2 right rows i d start text new within so_far more =
    more ∙ ap (λ (l : List ℕ). l ++ match_lines r2 right (get_or rows i d ∷ [])) so_far ∙ append_assoc start (match_lines r2 right (take i rows)) (match_lines r2 right (get_or rows i d ∷ []))
    ∙ ap (λ (l : List ℕ). start ++ l) (sym (lines_append r2 right (take i rows) (get_or rows i d ∷ [])) ∙ ap (match_lines r2 right) (sym (take_more rows i d within)))

pub matched_next : (r2 : ℕ) (right rows : List Row) (i : ℕ) (d : Row) → i < length rows
    → matched_rows r2 right (take (i + 1) rows) ≡ matched_rows r2 right (take i rows) + matched_rows r2 right (get_or rows i d ∷ [])
matched_next r2 right rows i d within = ap (matched_rows r2 right) (take_more rows i d within) ∙ matched_append r2 right (take i rows) (get_or rows i d ∷ [])
