-- What the partitions have of a partition's margin.
use Rattle.std.specs.Prelude.{◌≡◌, ℕ, List, Some, slice_get}
use Rattle.std.specs.List.{AllZip}
use Rattle.hx_base.specs.declared.pixel.Pixel.{Pixel}
use Rattle.hx_base.specs.declared.row.Row.{Row}
use Rattle.hx_base.specs.Contents.{AreMarginRows, partition_rows}
use Rattle.hx_spill.specs.Values.{AreMarginSplit}
use Rattle.hx_spill.specs.declared.split.Placed.{Placed}

-- those rows of the partition of a number that belong to a partition's margin, sorted
pub record IsSlice (parts : List Pixel) (part : Pixel) (margin_order : ℕ) (rows : List Row) (number : ℕ) (slice : List Row) : Type 0 where
  pub holder : Pixel
  pub there : slice_get parts number ≡ Some holder
  pub belong : AreMarginRows part margin_order (partition_rows holder rows) slice

-- the like for some partitions, one list for each
abbrev pub AreSlices : List Pixel → Pixel → ℕ → List Row → List ℕ → List (List Row) → Type 0
AreSlices parts part margin_order rows numbers slices = AllZip (λ number slice. IsSlice parts part margin_order rows number slice) numbers slices

-- the rows of the partition of a number, by the partitions whose margins have them
pub record IsSplitOf (parts : List Pixel) (margin_order : ℕ) (rows : List Row) (number : ℕ) (placed : List Placed) : Type 0 where
  pub holder : Pixel
  pub there : slice_get parts number ≡ Some holder
  pub value : AreMarginSplit parts margin_order (partition_rows holder rows) placed

-- the like for some partitions
abbrev pub AreSplitsOf : List Pixel → ℕ → List Row → List ℕ → List (List Placed) → Type 0
AreSplitsOf parts margin_order rows numbers splits = AllZip (λ number placed. IsSplitOf parts margin_order rows number placed) numbers splits
