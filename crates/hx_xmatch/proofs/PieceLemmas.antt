-- The lines of a run of left rows, searched in a field, are those of all right rows.
use Rattle.std.proofs.Common.{◌≡◌, ◌∙◌, ◌≤◌, ◌<◌, ◌+◌, ◌-◌, ◌++◌, [], ℕ, List, length, take, drop, Contains, refl, sym, ap, subst, arith, append-nil, append_assoc, length-drop}
use Rattle.std.specs.List.{AllWithin}
use Rattle.std.proofs.Math.Seq.{take-add}
use Rattle.std.proofs.lemmas.List.{get_or-take, length-take, take-append-drop, take_all}
use Rattle.std.proofs.lemmas.List.Elements.{Contains-append_left, Contains-append_right}
use Rattle.hx_base.specs.declared.row.Row.{Row}
use Rattle.hx_catalog.specs.Answers.{Opened}
use Rattle.hx_outside.specs.Folders.{Folder}
use Rattle.hx_xmatch.specs.Fields.{IsFieldOf}
use Rattle.hx_xmatch.specs.Files.{HasRowsAt, margin_order_of}
use Rattle.hx_xmatch.specs.MatchText.{match_lines, matched_rows}
use Rattle.hx_xmatch.specs.Pieces.{AddsLines, FindsAll}
use Rattle.hx_xmatch.specs.Runs.{IsRunOf, IsServedBy}
use Rattle.hx_xmatch.specs.declared.runs.Run.{Run}
use Rattle.hx_xmatch.proofs.Reading.{reads_all}
use Rattle.hx_xmatch.proofs.Texts.{SameMatches, lines_append, lines_same, matched_append, matched_same}

-- the rest of a slice is a list's
pub rest_is : (rows : List Row) (at : ℕ) → take (length rows - at) (drop at rows) ≡ drop at rows
rest_is rows at = take_all (length rows - at) (drop at rows) (omega (arith, length-drop at rows))

-- members of the first ones of the rest are members
pub of_rest : (rows : List Row) (at count : ℕ) (row : Row) → Contains (take count (drop at rows)) row → Contains rows row
of_rest rows at count row h =
    let in_rest : Contains (drop at rows) row = subst (λ (l : List Row). Contains l row) (take-append-drop count (drop at rows)) (Contains-append_left (take count (drop at rows)) (drop count (drop at rows)) row h) in
    subst (λ (l : List Row). Contains l row) (take-append-drop at rows) (Contains-append_right (take at rows) (drop at rows) row in_rest)

-- what holds within holds of the first ones
first_holds : (P : Row → Type 0) (rows : List Row) (count : ℕ) → AllWithin P rows 0 count → (row : Row) → Contains (take count rows) row → P row
first_holds P rows count within row (k, lt, is) =
    let below : k < count = omega (arith, lt, length-take count rows) in
    subst P (sym (get_or-take count rows k row below) ∙ is) (within k row (omega arith) below)

module _ (folder : Folder) (opened : Opened) (r2 : ℕ) (right left : List Row) (finds : FindsAll folder opened r2 right left) where
  run_same : (at : ℕ) (run : Run) (tree : List Row) → IsRunOf opened.parts (margin_order_of opened) (drop at left) run → IsFieldOf (HasRowsAt folder opened) run.parts.items run.margin tree
      → SameMatches r2 tree right (take run.count (drop at left))
  run_same at run tree is field row h =
      finds.enough row tree (of_rest left at run.count row h)
      (reads_all (HasRowsAt folder opened) opened.parts (margin_order_of opened) right finds.cut finds.files run.parts.items tree row run.margin field
      (first_holds (IsServedBy opened.parts (margin_order_of opened) run.parts.items run.margin) (drop at left) run.count is.served row h))

  pub run_added : (at : ℕ) (run : Run) (tree : List Row) (start text new : List ℕ) (matched more : ℕ)
      → IsRunOf opened.parts (margin_order_of opened) (drop at left) run → IsFieldOf (HasRowsAt folder opened) run.parts.items run.margin tree
      → AddsLines r2 right (take at left) start text matched
      → new ≡ text ++ match_lines r2 tree (take run.count (drop at left)) → more ≡ matched_rows r2 tree (take run.count (drop at left))
      → AddsLines r2 right (take (at + run.count) left) start new (matched + more)
  run_added at run tree start text new matched more is field so_far lines count =
      let piece = take run.count (drop at left) in
      let same = run_same at run tree is field in
      let joined : take (at + run.count) left ≡ take at left ++ piece = take-add at run.count left in
      record {
        lines =
            lines ∙ ap (λ (l : List ℕ). text ++ l) (lines_same r2 tree right piece same)
            ∙ ap (λ (l : List ℕ). l ++ match_lines r2 right piece) so_far.lines
            ∙ append_assoc start (match_lines r2 right (take at left)) (match_lines r2 right piece)
            ∙ ap (λ (l : List ℕ). start ++ l) (sym (lines_append r2 right (take at left) piece) ∙ ap (match_lines r2 right) (sym joined));
        count = omega (arith, so_far.count, count, matched_same r2 tree right piece same, matched_append r2 right (take at left) piece, ap (matched_rows r2 right) joined);
      }

-- before the first row, and behind the last one
pub none_added : (r2 : ℕ) (right : List Row) (text : List ℕ) → AddsLines r2 right [] text text 0
none_added r2 right text = record { lines = sym (append-nil text); count = refl }

pub all_added : (r2 : ℕ) (right left : List Row) (at : ℕ) (start text : List ℕ) (matched : ℕ) → length left ≤ at → AddsLines r2 right (take at left) start text matched → AddsLines r2 right left start text matched
all_added r2 right left at start text matched le adds = subst (λ (l : List Row). AddsLines r2 right l start text matched) (take_all at left le) adds
