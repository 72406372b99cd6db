use Rattle.hx_margin.proofs.Placing.{ArePlacedTo}
use Rattle.hx_margin.proofs.splitting.placed_rows.Given as goal

abbrev pub invariant-loop-row : goal.invariant-loop-row
invariant-loop-row l = ArePlacedTo l.tree l.margin_order l.rows l.row-index l.looked.pixel l.looked.numbers.items l.placed.items
