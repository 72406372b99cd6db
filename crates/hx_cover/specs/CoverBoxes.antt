-- Bounding boxes as the code keeps them: with the number of their pixel, and three ends low and high.
use Rattle.std.specs.Prelude.{◌≤ℤ◌, ℕ, pos, slice_index_or}
use Rattle.hx_base.specs.Boxes.{BoundingBox, Extent}
use Rattle.hx_base.specs.declared.row.Row.{Row}
use Rattle.hx_cover.specs.Bounds.{IsBounded}
use Rattle.hx_cover.specs.declared.bounds.CoverBox.{CoverBox}

abbrev pub extent_seen : CoverBox → ℕ → Extent
extent_seen seen axis = record { low = slice_index_or seen.lo axis (pos 0); high = slice_index_or seen.hi axis (pos 0) }

abbrev pub box_seen : CoverBox → BoundingBox
box_seen seen = record { x = extent_seen seen 0; y = extent_seen seen 1; z = extent_seen seen 2 }

-- the box of one row
abbrev pub row_box : Row → BoundingBox
row_box row = record { x = record { low = row.x; high = row.x }; y = record { low = row.y; high = row.y }; z = record { low = row.z; high = row.z } }

-- of one axis: the low end isn't above the high one, and both are coordinates of good rows
pub record IsSoundExtent (extent : Extent) : Type 0 where
  pub ascending : extent.low ≤ℤ extent.high
  pub bounded : IsBounded extent

-- on all three
pub record IsSound (seen : CoverBox) : Type 0 where
  pub x : IsSoundExtent (extent_seen seen 0)
  pub y : IsSoundExtent (extent_seen seen 1)
  pub z : IsSoundExtent (extent_seen seen 2)
