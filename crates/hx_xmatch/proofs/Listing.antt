-- The rows of files, one file after another, and one file more.
use Rattle.std.proofs.Common.{◌≡◌, ◌∙◌, ◌+◌, ◌++◌, ◌∷◌, [], ℕ, List, Bool, take, refl, sym, ap, subst, append-nil, append_assoc}
use Rattle.std.specs.Prelude.{slice_get, Some}
use Rattle.std.proofs.lemmas.List.{take_more}
use Rattle.std.proofs.lemmas.Option.{get_or_from_slice_get, slice_get_within}
use Rattle.hx_base.specs.declared.pixel.Pixel.{Pixel}
use Rattle.hx_base.specs.declared.row.Row.{Row}
use Rattle.hx_catalog.specs.Files.{AreListed, HasRows}
use Rattle.hx_outside.specs.Folders.{Folder}

module _ (folder : Folder) (name : List ℕ) (margin : Bool) where
  listed_behind : (parts : List Pixel) (pixel : Pixel) (rows file : List Row) → AreListed folder name margin parts rows → HasRows folder name margin pixel file
      → AreListed folder name margin (parts ++ pixel ∷ []) (rows ++ file)
  listed_behind [] pixel rows file none has = (file, [], has, refl, ap (λ (l : List Row). l ++ file) none ∙ sym (append-nil file))
  listed_behind (part ∷ parts) pixel rows file (front, more, has_part, rest, is) has =
      (front, more ++ file, has_part, listed_behind parts pixel more file rest has, ap (λ (l : List Row). l ++ file) is ∙ append_assoc front more file)

  pub listed_more : (parts : List Pixel) (i : ℕ) (pixel : Pixel) (rows file : List Row) → slice_get parts i ≡ Some pixel → AreListed folder name margin (take i parts) rows
      → HasRows folder name margin pixel file → AreListed folder name margin (take (i + 1) parts) (rows ++ file)
  listed_more parts i pixel rows file at listed has =
      let next : take (i + 1) parts ≡ take i parts ++ pixel ∷ [] =
      take_more parts i pixel (slice_get_within parts i pixel at) ∙ ap (λ (p : Pixel). take i parts ++ p ∷ []) (get_or_from_slice_get parts i pixel pixel at) in
      subst (λ (l : List Pixel). AreListed folder name margin l (rows ++ file)) (sym next) (listed_behind (take i parts) pixel rows file listed has)
