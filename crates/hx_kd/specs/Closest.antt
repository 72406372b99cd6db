-- What is kept of the rows that were seen so far.
use Rattle.std.specs.Prelude.{◌≡◌, ℕ, Bool, false, not, List, Option, Some, None}
use Rattle.std.specs.Ordering.{is_lt}
use Rattle.hx_base.specs.declared.row.Row.{Row}
use Rattle.hx_base.specs.Chords.{chord2_of}
use Rattle.hx_base.specs.Nearest.{IsNearest, tie_cmp}
use Rattle.hx_kd.specs.declared.closest.Closest.{Closest}

-- the squared chord beyond which no further row counts, r2 being the square of the radius
abbrev pub limit_of : Row → ℕ → Option Row → ℕ
limit_of from r2 None = r2
limit_of from r2 (Some row) = chord2_of from row

-- the nearest of the rows seen so far, and the limit
pub record IsClosestOf (from : Row) (r2 : ℕ) (seen : List Row) (best : Closest) : Type 0 where
  pub nearest : IsNearest from r2 seen best.found
  pub limit : best.limit ≡ limit_of from r2 best.found

-- what was found stays, where a further row is as far
abbrev pub stays : Option Row → Row → Bool
stays None row = false
stays (Some held) row = not (is_lt (tie_cmp row held))
