-- How far apart two rows are: the chord between their vectors, squared.
use Rattle.std.specs.Prelude.{◌+◌, ◌-ℤ◌, ℕ}
use Rattle.hx_base.specs.Rows.{square}
use Rattle.hx_base.specs.declared.row.Row.{Row}

abbrev pub chord2_of : Row → Row → ℕ
chord2_of a b = square (a.x -ℤ b.x) + square (a.y -ℤ b.y) + square (a.z -ℤ b.z)
