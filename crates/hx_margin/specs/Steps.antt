-- What the private functions say: one step of looking round a pixel.
use Rattle.std.specs.Prelude.{◌≡◌, ◌≢◌, ◌↔◌, ◌⊎◌, ◌<◌, ◌≤◌, ℕ, Bool, List, Some, All, AllPairs, Contains, filter, length, slice_get}
use Rattle.hx_base.specs.declared.pixel.Pixel.{Pixel}
use Rattle.hx_base.specs.declared.row.Row.{Row}
use Rattle.hx_base.specs.Contents.{TellsMargin}
use Rattle.hx_base.specs.Pixels.{LiesIn}
use Rattle.hx_ptree.specs.Searches.{IsHolder}
use Rattle.hx_spill.specs.Splits.{slice}
use Rattle.hx_spill.specs.declared.split.Placed.{Placed}
use Rattle.hx_margin.specs.Beside.{margin_pixel}

-- the partition of a number, which is of an order, contains a pixel of the margin order
pub record IsIn (parts : List Pixel) (number order margin_order pixel : ℕ) : Type 0 where
  pub part : Pixel
  pub there : slice_get parts number ≡ Some part
  pub same_order : part.order ≡ order
  pub lies : LiesIn (margin_pixel margin_order pixel) part

-- the partition of a number holds a position, and is another than one's own
abbrev pub IsOther : List Pixel → ℕ → ℕ → ℕ → Type 0
IsOther parts own position number = IsHolder parts position (Some number) × (number ≢ own)

-- a list of numbers gains such a partition's, if there is one and the list lacks it
pub record AddsOther (parts : List Pixel) (own position : ℕ) (old new : List ℕ) : Type 0 where
  pub members : (number : ℕ) → Contains new number ↔ (Contains old number ⊎ IsOther parts own position number)
  pub once : AllPairs (λ a b. a ≢ b) old → AllPairs (λ a b. a ≢ b) new

-- a list of numbers gains those from one to before another, none of which it has
pub record AddsRange (from end : ℕ) (old new : List ℕ) : Type 0 where
  pub members : (number : ℕ) → Contains new number ↔ (Contains old number ⊎ ((from ≤ number) × (number < end)))
  pub ascending : All (λ n. n < from) old → AllPairs (λ a b. a < b) old → AllPairs (λ a b. a < b) new

-- rows by the partitions whose margins they belong to, in the rows' own order
pub record AreCollected (parts : List Pixel) (margin_order : ℕ) (rows : List Row) (found : List Placed) : Type 0 where
  pub numbers : All (λ p. p.part < length parts) found
  pub each : (number : ℕ) (part : Pixel) (test : Row → Bool) → slice_get parts number ≡ Some part → TellsMargin part margin_order test → slice number found ≡ filter test rows
