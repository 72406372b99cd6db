-- The match of a row, and when it is the same among other rows.
use Rattle.std.proofs.Common.{◌≡◌, ◌≤◌, ◌<◌, ◌∷◌, [], ℕ, List, Option, Some, None, Bool, true, false, if◌then◌else◌, nat_le, Contains, refl, sym, subst, arith}
use Rattle.std.specs.Prelude.{◌↔◌}
use Rattle.std.proofs.lemmas.Bool.Decides.{nat_tests}
use Rattle.std.proofs.lemmas.List.Elements.{All-cons, All-nil}
use Rattle.hx_base.specs.Chords.{chord2_of}
use Rattle.hx_base.specs.Coverage.{IsCutInto, NoneTooNear}
use Rattle.hx_base.specs.Nearest.{IsNearest, SameWithin}
use Rattle.hx_base.specs.declared.pixel.Pixel.{Pixel}
use Rattle.hx_base.specs.declared.row.Row.{Row}
use Rattle.hx_base.proofs.NearestRows.{nearest_of_both, nearest_of_one, one_nearest, same_nearest}
use Rattle.hx_cover.proofs.Covered.{read_where_none}
use Rattle.hx_xmatch.specs.MatchText.{if_within, nearest_of}
use Rattle.hx_xmatch.specs.Reads.{ReadsAll}

module _ (from : Row) (r2 : ℕ) where
  is_close : (row : Row) → nat_le (chord2_of from row) r2 ≡ true → chord2_of from row ≤ r2
  is_close row e = grind (arith, nat_tests)

  is_far : (row : Row) → nat_le (chord2_of from row) r2 ≡ false → r2 < chord2_of from row
  is_far row e = grind (arith, nat_tests)

  one_told : (row : Row) (b : Bool) → nat_le (chord2_of from row) r2 ≡ b → IsNearest from r2 (row ∷ []) (if b then Some row else None)
  one_told row true e = nearest_of_one from r2 row (is_close row e)
  one_told row false e = All-cons (λ other. r2 < chord2_of from other) row [] (is_far row e) (All-nil (λ other. r2 < chord2_of from other))

  pub is_nearest : (rows : List Row) → IsNearest from r2 rows (nearest_of from r2 rows)
  unfolding nearest_of
  is_nearest [] = All-nil (λ other. r2 < chord2_of from other)
  is_nearest (row ∷ rows) = nearest_of_both from r2 (row ∷ []) rows (if_within from r2 row) (nearest_of from r2 rows) (one_told row _ refl) (is_nearest rows)

  pub only_nearest : (rows : List Row) (found : Option Row) → IsNearest from r2 rows found ↔ (found ≡ nearest_of from r2 rows)
  only_nearest rows found = (
    λ nearest. one_nearest from r2 rows found (nearest_of from r2 rows) nearest (is_nearest rows),
    λ e. subst (IsNearest from r2 rows) (sym e) (is_nearest rows),
  )

  pub same_match : (rows others : List Row) → SameWithin from r2 rows others → nearest_of from r2 rows ≡ nearest_of from r2 others
  same_match rows others same = one_nearest from r2 others _ _ (same_nearest from r2 rows others _ same (is_nearest rows)) (is_nearest others)

-- the rows that are read have the match of all right rows
pub match_of_read : (parts : List Pixel) (m r2 : ℕ) (left right rows : List Row) (row : Row) → IsCutInto right parts m → NoneTooNear parts m r2 left right → Contains left row
    → ReadsAll parts m right row rows → nearest_of row r2 rows ≡ nearest_of row r2 right
match_of_read parts m r2 left right rows row cut none member reads =
    same_match row r2 rows right (record {
      there = λ other h close. reads.only other h;
      back = λ other h close. reads.all other h (read_where_none parts m right cut row other h left r2 none member close);
    })
