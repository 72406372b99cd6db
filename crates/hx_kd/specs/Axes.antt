-- The three axes of space, and a row's coordinates on them.
use Rattle.std.specs.Prelude.{ℕ, ℤ, List, [], ◌∷◌}
use Rattle.hx_base.specs.declared.row.Row.{Row}
use Rattle.hx_kd.specs.declared.axis.Axis.{Axis}
use Rattle.hx_kd.specs.declared.axis.Axis.TheVariants.{X, Y, Z}

abbrev pub coordinate : Axis → Row → ℤ
coordinate X row = row.x
coordinate Y row = row.y
coordinate Z row = row.z

abbrev pub index_of : Axis → ℕ
index_of X = 0
index_of Y = 1
index_of Z = 2

abbrev pub coordinates : Row → List ℤ
coordinates row = row.x ∷ row.y ∷ row.z ∷ []
