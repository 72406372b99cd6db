use Rattle.std.proofs.Common.{arith}
use Rattle.hx_base.proofs.Powers.{children_end}
use Rattle.hx_hist.proofs.hist.Hist.total_in.Goals as goal

pub total_of_children-requires-clause-range : goal.total_of_children-requires-clause-range
total_of_children-requires-clause-range c = children_end c.args.pixel.number c.args.pixel.order c.order.result (omega (arith, c.order.ensures.value)) c.order.ensures.range c.requires.number
