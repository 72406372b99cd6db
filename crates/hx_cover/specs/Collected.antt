-- Boxes of rows to which more rows are added.
use Rattle.std.specs.Prelude.{◌≡◌, ◌++◌, ◌-◌, ◌≤◌, ℕ, List, Some, All, length, slice_get}
use Rattle.hx_base.specs.declared.row.Row.{Row}
use Rattle.hx_cover.specs.TooNear.{AreBoxes}
use Rattle.hx_cover.specs.declared.bounds.CoverBox.{CoverBox}

-- the last box is that of a pixel
pub record EndsWith (boxes : List CoverBox) (pixel : ℕ) : Type 0 where
  pub last : CoverBox
  pub there : slice_get boxes (length boxes - 1) ≡ Some last
  pub same : last.pixel ≡ pixel

-- no box is behind a pixel
abbrev pub AreUpTo : ℕ → List CoverBox → Type 0
AreUpTo pixel boxes = All (λ seen. seen.pixel ≤ pixel) boxes

-- boxes of any rows become those of these rows and some more
abbrev pub AddsTo : ℕ → List CoverBox → List Row → List CoverBox → Type 0
AddsTo order old rows new = (before : List Row) → AreBoxes order before old → AreBoxes order (before ++ rows) new
