-- What the coverage test over boxes tells of two catalogues.
use Rattle.std.proofs.Common.{◌≡◌, ◌+◌, ℕ, List, Some, None, subst}
use Rattle.hx_base.specs.Coverage.{IsLeastTooNear, NoneTooNear}
use Rattle.hx_base.specs.declared.pixel.Pixel.{Pixel}
use Rattle.hx_base.specs.declared.row.Row.{Row}
use Rattle.hx_catalog.specs.Answers.{Opened}
use Rattle.hx_cover.specs.TooNear.{AreBoxes, IsFirstTooNear}
use Rattle.hx_cover.specs.declared.bounds.CoverBox.{CoverBox}
use Rattle.hx_cover.specs.declared.bounds.TooNear.{TooNear}
use Rattle.hx_cover.proofs.Firsts.{least_of_rows, none_of_rows}
use Rattle.hx_outside.specs.Folders.{Folder}
use Rattle.hx_xmatch.specs.Files.{AreAllRows, margin_order_of}
use Rattle.hx_xmatch.specs.Tested.{IsCovered, IsTooNarrow}

-- boxes of all rows of a catalogue
abbrev pub AreItsBoxes : Folder → Opened → ℕ → List CoverBox → Type 0
AreItsBoxes folder opened order boxes = (rows : List Row) × AreAllRows folder opened rows × AreBoxes order rows boxes

module _ (folder : Folder) (left right : Opened) (r2 m : ℕ) (parts : List Pixel) (lefts rights : List CoverBox) (order_is : m ≡ margin_order_of right) (parts_are : parts ≡ right.parts)
    (is_left : AreItsBoxes folder left (m + 2) lefts) (is_right : AreItsBoxes folder right (m + 2) rights) where
  pub covered_from : IsFirstTooNear parts m r2 lefts rights None → IsCovered folder left right r2
  covered_from first = record {
    left_rows = is_left.0;
    right_rows = is_right.0;
    are_left = is_left.1;
    are_right = is_right.1;
    none = subst (λ (n : ℕ). NoneTooNear right.parts n r2 is_left.0 is_right.0) order_is
        (subst (λ (ps : List Pixel). NoneTooNear ps m r2 is_left.0 is_right.0) parts_are (none_of_rows parts m r2 is_left.0 is_right.0 lefts rights is_left.2 is_right.2 first));
  }

  pub narrow_from : (found : TooNear) → IsFirstTooNear parts m r2 lefts rights (Some found) → IsTooNarrow folder left right r2 found.left found.right found.gap2
  narrow_from found first = record {
    left_rows = is_left.0;
    right_rows = is_right.0;
    are_left = is_left.1;
    are_right = is_right.1;
    least = subst (λ (n : ℕ). IsLeastTooNear right.parts n r2 is_left.0 is_right.0 found.left found.right found.gap2) order_is
        (subst (λ (ps : List Pixel). IsLeastTooNear ps m r2 is_left.0 is_right.0 found.left found.right found.gap2) parts_are (least_of_rows parts m r2 is_left.0 is_right.0 lefts rights is_left.2 is_right.2 found first));
  }
