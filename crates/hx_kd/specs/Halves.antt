-- Rows halved in place, again and again, along one axis at a time.
use Rattle.std.specs.Prelude.{◌≤◌, ◌<◌, ◌≤ℤ◌, ◌/◌, slice_index_or, ℕ, ℤ, zero, suc, List, [], ◌∷◌, ⊤, All, length, take, drop}
use Rattle.hx_base.specs.Rows.{IsGood}
use Rattle.hx_base.specs.declared.row.Row.{Row}
use Rattle.hx_kd.specs.Axes.{coordinate}
use Rattle.hx_kd.specs.declared.halves.Node.{Node}

-- the first half of the rows is at most the split, and the second at least
pub record IsParted (number : Row → ℤ) (split : ℤ) (rows : List Row) : Type 0 where
  pub up_to : All (λ row. number row ≤ℤ split) (take (length rows / 2) rows)
  pub from : All (λ row. split ≤ℤ number row) (drop (length rows / 2) rows)

-- no later row's number is less
abbrev pub IsRising : (Row → ℤ) → List Row → Type 0
IsRising number rows = (i j : ℕ) (d : Row) → i ≤ j → j < length rows → number (slice_index_or rows i d) ≤ℤ number (slice_index_or rows j d)

-- rows halved so many times: the first node parts the rows, and the first half of the further nodes is that of their
-- first half
abbrev pub IsHalvedTo : ℕ → List Node → List Row → Type 0
IsHalvedTo zero nodes rows = ⊤
IsHalvedTo (suc levels) [] rows = ⊤
IsHalvedTo (suc levels) (node ∷ below) rows =
    IsParted (coordinate node.axis) node.split rows
    × IsHalvedTo levels (take (length below / 2) below) (take (length rows / 2) rows)
    × IsHalvedTo levels (drop (length below / 2) below) (drop (length rows / 2) rows)

-- each node parts its rows
abbrev pub IsHalved : List Node → List Row → Type 0
IsHalved nodes rows = (levels : ℕ) → IsHalvedTo levels nodes rows

-- good rows, parted by nodes
pub record IsTree (nodes : List Node) (rows : List Row) : Type 0 where
  pub good : All IsGood rows
  pub halved : IsHalved nodes rows
