-- Rows one after another, each by the partition that holds it, where one does.
use Rattle.std.specs.Prelude.{◌≡◌, ◌++◌, ◌∷◌, [], ℕ, List, Option, Some, None}
use Rattle.hx_base.specs.declared.pixel.Pixel.{Pixel}
use Rattle.hx_base.specs.declared.row.Row.{Row}
use Rattle.hx_ptree.specs.Searches.{IsHolder}
use Rattle.hx_spill.specs.Splits.{placed_at}
use Rattle.hx_spill.specs.declared.split.Placed.{Placed}

-- a row by a partition, where there is one
abbrev pub placed_by : Option ℕ → Row → List Placed
placed_by None row = []
placed_by (Some part) row = placed_at part row ∷ []

abbrev pub Places : List Pixel → List Row → List Placed → Type 0
Places parts [] placed = placed ≡ []
Places parts (row ∷ rows) placed = (found : Option ℕ) × (rest : List Placed) × IsHolder parts row.hp found × (placed ≡ placed_by found row ++ rest) × Places parts rows rest
