use Rattle.hx_base.proofs.RowOrder.{only_sorted}
use Rattle.hx_work.proofs.sorting.runs_in_order.Goals as goal

pub returns : goal.returns
returns c = only_sorted c.args.rows.items c.sort.new.self.items c.in_ok-sort.ensures.sorted c.sort.ensures.permutation
