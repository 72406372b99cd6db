use Rattle.std.proofs.Common.{◌≡◌, ◌∙◌, ◌++◌, ◌∷◌, [], ℕ, List, Option, Some, None, cond, ap, sym}
use Rattle.std.specs.Prelude.{is_some}
use Rattle.hx_base.specs.Nearest.{IsNearest}
use Rattle.hx_base.specs.declared.row.Row.{Row}
use Rattle.hx_kd.specs.Found.{row_of}
use Rattle.hx_kd.specs.declared.tree.Near.{Near}
use Rattle.hx_xmatch.specs.MatchText.{match_line, match_lines, matched_rows}
use Rattle.hx_xmatch.proofs.Matches.{only_nearest}
use Rattle.hx_xmatch.proofs.Texts.{one_line, one_matched}
use Rattle.hx_xmatch.proofs.lines.push_match.Goals as goal

line_is : (row : Row) (r2 : ℕ) (right : List Row) (near : Option Near) (old new : List ℕ) → IsNearest row r2 right (row_of near) → new ≡ old ++ match_line row (row_of near)
    → new ≡ old ++ match_lines r2 right (row ∷ [])
line_is row r2 right near old new nearest added =
    added ∙ ap (λ (l : List ℕ). old ++ l) (one_line row r2 right (row_of near) ((only_nearest row r2 right (row_of near)).0 nearest))

count_is : (row : Row) (r2 : ℕ) (right : List Row) (near : Option Near) → IsNearest row r2 right (row_of near) → cond (is_some near) 1 0 ≡ matched_rows r2 right (row ∷ [])
count_is row r2 right near nearest = sym (one_matched row r2 right near ((only_nearest row r2 right (row_of near)).0 nearest))

none_counts : (near : Option Near) → near ≡ None → ◌≡◌ {A = ℕ} 0 (cond (is_some near) 1 0)
none_counts near is = ap (λ (o : Option Near). cond (is_some o) 1 0) (sym is)

one_counts : (near : Option Near) (found : Near) → near ≡ Some found → ◌≡◌ {A = ℕ} 1 (cond (is_some near) 1 0)
one_counts near found is = ap (λ (o : Option Near). cond (is_some o) 1 0) (sym is)

pub returns-in-None-clause-line : goal.returns-in-None-clause-line
returns-in-None-clause-line c = line_is c.args.left.now c.args.r2 c.args.tree.now c.nearest-found.result c.args.text.now.items _ c.nearest-found.ensures.nearest c.in_ok-push_line.ensures

pub returns-in-None-clause-matched : goal.returns-in-None-clause-matched
returns-in-None-clause-matched c =
    none_counts c.nearest-found.result c.in-None.is ∙ count_is c.args.left.now c.args.r2 c.args.tree.now c.nearest-found.result c.nearest-found.ensures.nearest

pub returns-in-Some-clause-line : goal.returns-in-Some-clause-line
returns-in-Some-clause-line c = line_is c.args.left.now c.args.r2 c.args.tree.now c.nearest-found.result c.args.text.now.items _ c.nearest-found.ensures.nearest c.in_ok-push_line.ensures

pub returns-in-Some-clause-matched : goal.returns-in-Some-clause-matched
returns-in-Some-clause-matched c =
    one_counts c.nearest-found.result c.in-Some.field-0 c.in-Some.is ∙ count_is c.args.left.now c.args.r2 c.args.tree.now c.nearest-found.result c.nearest-found.ensures.nearest
