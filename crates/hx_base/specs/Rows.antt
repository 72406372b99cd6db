-- Rows: which are good, and their order.
-- Positions are order-29 pixels of HEALPix's nested scheme; a vector's coordinates are whole numbers of 10^-9.
use Rattle.std.specs.Prelude.{◌+◌, ◌*◌, ◌^◌, ◌<◌, ◌≤◌, ℕ, ℤ, List}
use Rattle.std.specs.Int.RustNames.{unsigned_abs}
use Rattle.std.specs.Ordering.{nat_cmp, int_cmp, ordering_then}
use Rattle.std.specs.declared.cmp.Ordering.{Ordering}
use Rattle.hx_base.specs.declared.row.Row.{Row}
use Rattle.hx_base.specs.Sorted.{sorted}

abbrev pub square : ℤ → ℕ
square z = unsigned_abs z * unsigned_abs z

abbrev pub squared_length : Row → ℕ
squared_length r = square r.x + square r.y + square r.z

-- the squared length of a unit vector, and by how much rounding or truncation may change it
abbrev pub unit : ℕ
unit = 10 ^ 18

abbrev pub tolerance : ℕ
tolerance = 4 * 10 ^ 9

-- the pixel is one of order 29, and the vector is of unit length up to rounding
pub record IsGood (r : Row) : Type 0 where
  pub pixel : r.hp < 12 * 4 ^ 29
  pub no_longer : squared_length r ≤ unit + tolerance
  pub no_shorter : unit ≤ squared_length r + tolerance

-- by position, then id, then the vector's coordinates
abbrev pub row_cmp : Row → Row → Ordering
row_cmp a b = ordering_then (nat_cmp a.hp b.hp) (ordering_then (int_cmp a.id b.id) (ordering_then (int_cmp a.x b.x) (ordering_then (int_cmp a.y b.y) (int_cmp a.z b.z))))

-- the ascending list that has each row as often as a list has it
abbrev pub sorted_rows : List Row → List Row
sorted_rows rows = sorted row_cmp rows
