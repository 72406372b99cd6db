use Rattle.std.proofs.Common.{[], ◌≡◌, ◌∷◌, ◌-◌, length, suc}
use Rattle.std.specs.List.{range_with_len}
use Rattle.hx_rows.specs.Parquet.{row_across}
use Rattle.hx_rows.specs.Rows.{rows_from}
use Rattle.hx_rows.proofs.Collecting.{joined}
use Rattle.hx_rows.proofs.parquet.rows_across.Given as goal

-- the rows so far and those of the values that are left are what all of them give
abbrev pub invariant-loop-i : goal.invariant-loop-i
invariant-loop-i l =
    let columns = l.hps ∷ l.ids ∷ l.xs ∷ l.ys ∷ l.zs ∷ [] in
    joined l.rows.items (rows_from (row_across columns) (suc l.i) (range_with_len l.i (length l.hps - l.i))) ≡ rows_from (row_across columns) 1 (range_with_len 0 (length l.hps))
