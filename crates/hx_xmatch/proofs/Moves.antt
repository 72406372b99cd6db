-- The files of catalogues read the same while a file in no folder changes.
use Rattle.std.proofs.Common.{◌≡◌, ◌≢◌, ◌++◌, ℕ, List, Option, Bool, true, false, Contains, refl, sym, subst, arith, inl, inr}
use Rattle.std.proofs.lemmas.List.Elements.{All-contains, Contains-append_left, Contains-append_right}
use Rattle.hx_base.specs.Paths.{folder_of, part_of}
use Rattle.hx_base.specs.declared.pixel.Pixel.{Pixel}
use Rattle.hx_base.specs.declared.refusal.Refusal.{Refusal}
use Rattle.hx_base.specs.declared.row.Row.{Row}
use Rattle.hx_catalog.specs.Answers.{IsDamagedAt, IsFileDamage, Opened}
use Rattle.hx_catalog.specs.Files.{FileHolds, HasRows, rows_file, rows_of_part}
use Rattle.hx_outside.specs.Folders.{Folder, SameBut}
use Rattle.hx_xmatch.specs.Files.{HasRowsAt, IsEitherLoadRefusal, IsLoadRefusal}
use Rattle.hx_xmatch.specs.Output.{HasNoFolder}
use Rattle.hx_xmatch.specs.Pieces.{FindsAll}
use Rattle.hx_xmatch.proofs.FieldLemmas.{files_move}

-- a file of rows lies in a folder
slash_in : (margin : Bool) → Contains (folder_of (rows_of_part margin 0)) 47
slash_in false = (0, omega arith, refl)
slash_in true = (7, omega arith, refl)

pub lies_in_folder : (name : List ℕ) (margin : Bool) (pixel : Pixel) → Contains (rows_file name margin pixel) 47
lies_in_folder name margin pixel =
    Contains-append_left (name ++ folder_of (rows_of_part margin 0)) (part_of (rows_of_part margin 0) pixel) 47
    (Contains-append_right name (folder_of (rows_of_part margin 0)) 47 (slash_in margin))

pub not_in_folder : (name : List ℕ) (margin : Bool) (pixel : Pixel) (tmp : List ℕ) → HasNoFolder tmp → rows_file name margin pixel ≢ tmp
not_in_folder name margin pixel tmp none is =
    All-contains (λ byte. byte ≢ 47) tmp 47 none (subst (λ (path : List ℕ). Contains path 47) is (lies_in_folder name margin pixel)) refl

pub rows_move : (f g : Folder) (name : List ℕ) (margin : Bool) (pixel : Pixel) (rows : List Row) → g (rows_file name margin pixel) ≡ f (rows_file name margin pixel)
    → HasRows f name margin pixel rows → HasRows g name margin pixel rows
rows_move f g name margin pixel rows same has = record { holds = subst (λ (file : Option (List ℕ)). FileHolds file rows) (sym same) has.holds; belong = has.belong }

module _ (f g : Folder) (tmp : List ℕ) (none : HasNoFolder tmp) (same : SameBut tmp f g) where
  pub rows_on : (opened : Opened) (index : ℕ) (margin : Bool) (rows : List Row) → HasRowsAt f opened index margin rows → HasRowsAt g opened index margin rows
  rows_on opened index margin rows (pixel, at, has) =
      (pixel, at, rows_move f g opened.properties.settings.name margin pixel rows (same (rows_file opened.properties.settings.name margin pixel) (not_in_folder opened.properties.settings.name margin pixel tmp none)) has)

  pub rows_back : (opened : Opened) (index : ℕ) (margin : Bool) (rows : List Row) → HasRowsAt g opened index margin rows → HasRowsAt f opened index margin rows
  rows_back opened index margin rows (pixel, at, has) =
      (pixel, at, rows_move g f opened.properties.settings.name margin pixel rows (sym (same (rows_file opened.properties.settings.name margin pixel) (not_in_folder opened.properties.settings.name margin pixel tmp none))) has)

  pub finds_on : (opened : Opened) (r2 : ℕ) (right left : List Row) → FindsAll f opened r2 right left → FindsAll g opened r2 right left
  finds_on opened r2 right left finds = record {
    files = files_move (HasRowsAt f opened) (HasRowsAt g opened) (rows_back opened) opened.parts opened.properties.settings.margin_order right finds.files;
    cut = finds.cut;
    enough = finds.enough;
  }

  -- why a file isn't loaded
  pub refused_back : (opened : Opened) (given : Refusal) → IsLoadRefusal g opened given → IsLoadRefusal f opened given
  refused_back opened given (inl out) = inl out
  refused_back opened given (inr (index, margin, (pixel, at, damaged))) =
      inr (
        index,
        margin,
        (
          pixel,
          at,
          subst (λ (file : Option (List ℕ)). IsDamagedAt opened.side (rows_of_part margin index) (IsFileDamage margin pixel file) given)
              (same (rows_file opened.properties.settings.name margin pixel) (not_in_folder opened.properties.settings.name margin pixel tmp none)) damaged,
        ),
      )

  pub either_back : (left right : Opened) (given : Refusal) → IsEitherLoadRefusal g left right given → IsEitherLoadRefusal f left right given
  either_back left right given (inl refused) = inl (refused_back left given refused)
  either_back left right given (inr refused) = inr (refused_back right given refused)
