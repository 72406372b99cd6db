-- Rows by the pixel of order 4 that holds them.
use Rattle.std.specs.Prelude.{◌≡◌, ◌<◌, ℕ, List, [], length, slice_index_or}
use Rattle.hx_base.specs.Pixels.{rows_in}
use Rattle.hx_base.specs.declared.row.Row.{Row}

-- the rows of each pixel of order 4
pub record AreByPixel (rows : List Row) (lists : List (List Row)) : Type 0 where
  pub count : length lists ≡ 3072
  pub each : (k : ℕ) → k < 3072 → slice_index_or lists k [] ≡ rows_in (record { order = 4; number = k }) rows
