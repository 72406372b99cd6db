-- What a search for a left row goes through.
use Rattle.std.specs.Prelude.{ℕ, List, Contains}
use Rattle.hx_base.specs.declared.pixel.Pixel.{Pixel}
use Rattle.hx_base.specs.declared.row.Row.{Row}
use Rattle.hx_base.specs.Coverage.{IsRead}

-- right rows alone, and all that the search for a left row reads; it may go through others and through some twice
pub record ReadsAll (parts : List Pixel) (margin_order : ℕ) (right : List Row) (left : Row) (rows : List Row) : Type 0 where
  pub only : (row : Row) → Contains rows row → Contains right row
  pub all : (row : Row) → Contains right row → IsRead parts margin_order left row → Contains rows row
