use Rattle.std.proofs.Common.{◌≡◌, ◌++◌, map, take}
use Rattle.hx_spill.specs.Splits.{placed_at}
use Rattle.hx_margin.proofs.splitting.place_row.Given as goal

abbrev pub invariant-loop-number : goal.invariant-loop-number
invariant-loop-number l = l.placed.items ≡ l.initial.placed.items ++ map (λ number. placed_at number l.row) (take l.number-index l.numbers)
