-- What is written of the rows of the first left partitions, and of one partition more.
use Rattle.std.proofs.Common.{◌≡◌, ◌∙◌, ◌+◌, ◌++◌, [], ℕ, List, Bool, false, Option, Some, Contains, refl, sym, ap, subst, arith, append-nil, append_assoc, length-append}
use Rattle.std.proofs.lemmas.List.Elements.{Contains-append_left, Contains-append_right}
use Rattle.hx_base.specs.declared.row.Row.{Row}
use Rattle.hx_catalog.specs.Answers.{Opened}
use Rattle.hx_outside.specs.Folders.{Folder, SameBut}
use Rattle.hx_xmatch.specs.Fields.{IsFieldOf}
use Rattle.hx_xmatch.specs.MatchText.{header, match_lines, match_text}
use Rattle.hx_xmatch.specs.Output.{AddsPiece, HasNoFolder, IsWrittenFor, counted}
use Rattle.hx_xmatch.specs.Pieces.{FindsAll}
use Rattle.hx_xmatch.proofs.FieldLemmas.{field_none}
use Rattle.hx_xmatch.proofs.Moves.{finds_on}
use Rattle.hx_xmatch.proofs.Texts.{lines_append, matched_append}

-- a field of no partitions
pub field_empty : (told : ℕ → Bool → List Row → Type 0) (indices : List ℕ) (margin : Bool) (rows : List Row) → (indices ≡ []) × (margin ≡ false) × (rows ≡ []) → IsFieldOf told indices margin rows
field_empty told indices margin rows (no_indices, no_margin, no_rows) =
    subst (λ (l : List ℕ). IsFieldOf told l margin rows) (sym no_indices)
    (subst (λ (b : Bool). IsFieldOf told [] b rows) (sym no_margin)
    (subst (λ (l : List Row). IsFieldOf told [] false l) (sym no_rows) (field_none told false)))

-- before the first partition
pub none_written : (folder : Folder) (right : Opened) (r2 : ℕ) → IsWrittenFor folder right r2 [] header 0 0
none_written folder right r2 all finds = record { text_is = sym (append-nil header); rows_are = refl; matched_are = refl }

-- what is found for rows is found for some of them
pub finds_some : (folder : Folder) (opened : Opened) (r2 : ℕ) (all rows some : List Row) → ((row : Row) → Contains some row → Contains rows row) → FindsAll folder opened r2 all rows → FindsAll folder opened r2 all some
finds_some folder opened r2 all rows some among finds = record { files = finds.files; cut = finds.cut; enough = λ row read h. finds.enough row read (among row h) }

module _ (f g : Folder) (tmp : List ℕ) (none : HasNoFolder tmp) (same : SameBut tmp f g) (left right : Opened) (r2 : ℕ) where
  pub more_written : (part : ℕ) (done : List Row) (text : List ℕ) (new : Option (List ℕ)) (rows matched more_rows more_matched all_rows all_matched : ℕ)
      → IsWrittenFor f right r2 done text rows matched → (adds : AddsPiece g left right part r2 (Some text) new more_rows more_matched)
      → all_rows ≡ counted (rows + more_rows) → all_matched ≡ counted (matched + more_matched)
      → IsWrittenFor f right r2 (done ++ adds.file) (text ++ adds.lines) all_rows all_matched
  more_written part done text new rows matched more_rows more_matched all_rows all_matched so_far adds rows_are matched_are all finds =
      let front = so_far all (finds_some f right r2 all (done ++ adds.file) done (λ row h. Contains-append_left done adds.file row h) finds) in
      let back = adds.found all (finds_on f g tmp none same right r2 all adds.file (finds_some f right r2 all (done ++ adds.file) adds.file (λ row h. Contains-append_right done adds.file row h) finds)) in
      record {
        text_is =
            ap (λ (l : List ℕ). l ++ adds.lines) front.text_is ∙ ap (λ (l : List ℕ). match_text r2 all done ++ l) back.0
            ∙ append_assoc header (match_lines r2 all done) (match_lines r2 all adds.file) ∙ ap (λ (l : List ℕ). header ++ l) (sym (lines_append r2 all done adds.file));
        rows_are = omega (arith, rows_are, front.rows_are, adds.rows_are, length-append done adds.file);
        matched_are = omega (arith, matched_are, front.matched_are, back.1, matched_append r2 all done adds.file);
      }
