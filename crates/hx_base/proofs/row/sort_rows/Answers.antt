use Rattle.hx_base.proofs.RowOrder.{only_sorted}
use Rattle.hx_base.proofs.row.sort_rows.Goals as goal

pub returns : goal.returns
returns c = only_sorted c.args.rows.now c.sort_unstable.new.self c.sort_unstable.ensures.sorted c.sort_unstable.ensures.permutation
