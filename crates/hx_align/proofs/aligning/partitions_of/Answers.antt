use Rattle.hx_align.proofs.Whole.{all_planned}
use Rattle.hx_align.proofs.aligning.partitions_of.Goals as goal

pub returns : goal.returns
returns c = all_planned _ _ _ _ _ (rw (c.pairs.ensures.pairs, c.order.ensures.value, c.new-rows.ensures.items) at c.in_ok-append_partitions.ensures)
