-- What a catalogue has of a list of rows: the rows of a partition, and those of its margin.
use Rattle.std.specs.Prelude.{◌≡◌, ◌↔◌, ℕ, List, Bool, IsTrue, filter}
use Rattle.hx_base.specs.Pixels.{LiesIn, PixelContains, pixel_of, rows_in}
use Rattle.hx_base.specs.Rows.{sorted_rows}
use Rattle.hx_base.specs.Touching.{Touch}
use Rattle.hx_base.specs.declared.pixel.Pixel.{Pixel}
use Rattle.hx_base.specs.declared.row.Row.{Row}

-- the rows of a partition: those that it contains, each as often as it came, sorted
abbrev pub partition_rows : Pixel → List Row → List Row
partition_rows part rows = sorted_rows (rows_in part rows)

-- a row belongs to a partition's margin: the partition doesn't contain it, and its pixel of the margin order touches one that lies in the partition
pub record IsInMargin (part : Pixel) (margin_order : ℕ) (row : Row) : Type 0 where
  pub outside : ¬ (PixelContains part row)
  pub edge : ℕ
  pub inside : LiesIn (record { order = margin_order; number = edge }) part
  pub touches : Touch margin_order (pixel_of margin_order row.hp) edge

-- a test that tells which rows belong to a partition's margin
abbrev pub TellsMargin : Pixel → ℕ → (Row → Bool) → Type 0
TellsMargin part margin_order test = (row : Row) → IsTrue (test row) ↔ IsInMargin part margin_order row

-- the rows of a partition's margin: those that belong to it, each as often as it came, sorted
pub record AreMarginRows (part : Pixel) (margin_order : ℕ) (rows margin : List Row) : Type 0 where
  pub test : Row → Bool
  pub tells : TellsMargin part margin_order test
  pub listed : margin ≡ sorted_rows (filter test rows)
