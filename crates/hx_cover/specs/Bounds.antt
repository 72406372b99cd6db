-- What lies in a bounding box, and the least box round two.
use Rattle.std.specs.Prelude.{◌≤◌, ◌≤ℤ◌, ℤ}
use Rattle.std.specs.Int.{int_max, int_min}
use Rattle.std.specs.Int.RustNames.{unsigned_abs}
use Rattle.hx_base.specs.Boxes.{BoundingBox, Extent}
use Rattle.hx_base.specs.declared.row.Row.{Row}

-- on one axis
pub record LiesWithin (extent : Extent) (coordinate : ℤ) : Type 0 where
  pub low : extent.low ≤ℤ coordinate
  pub high : coordinate ≤ℤ extent.high

-- a row's vector lies in a box
pub record IsWithin (box : BoundingBox) (row : Row) : Type 0 where
  pub x : LiesWithin box.x row.x
  pub y : LiesWithin box.y row.y
  pub z : LiesWithin box.z row.z

-- the ends are coordinates that good rows may have, in 10^-9
pub record IsBounded (extent : Extent) : Type 0 where
  pub low : unsigned_abs extent.low ≤ 1000000001
  pub high : unsigned_abs extent.high ≤ 1000000001

-- the least that has two in it, on one axis and as a box
abbrev pub joined_extent : Extent → Extent → Extent
joined_extent a b = record { low = int_min a.low b.low; high = int_max a.high b.high }

abbrev pub joined_box : BoundingBox → BoundingBox → BoundingBox
joined_box a b = record { x = joined_extent a.x b.x; y = joined_extent a.y b.y; z = joined_extent a.z b.z }

-- on one axis
pub record IsInsideExtent (inner outer : Extent) : Type 0 where
  pub low : outer.low ≤ℤ inner.low
  pub high : inner.high ≤ℤ outer.high

-- one box lies in another
pub record IsInside (inner outer : BoundingBox) : Type 0 where
  pub x : IsInsideExtent inner.x outer.x
  pub y : IsInsideExtent inner.y outer.y
  pub z : IsInsideExtent inner.z outer.z
