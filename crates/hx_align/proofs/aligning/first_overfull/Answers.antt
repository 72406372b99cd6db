use Rattle.hx_align.proofs.Overfull.{found_count, found_first, found_none, found_nothing}
use Rattle.hx_align.proofs.aligning.first_overfull.Goals as goal

pub returns-clause-found : goal.returns-clause-found
returns-clause-found c = found_first c.args.hist.now.order c.args.threshold c.args.hist.now.pairs c.pairs.ensures.histogram c.first_above.result (rw c.pairs.ensures.pairs at c.first_above.ensures)

pub returns-clause-count : goal.returns-clause-count
returns-clause-count c = found_count c.args.hist.now.order c.args.threshold c.args.hist.now.pairs c.pairs.ensures.histogram c.first_above.result (rw c.pairs.ensures.pairs at c.first_above.ensures)

pub returns-clause-none : goal.returns-clause-none
returns-clause-none c = found_nothing c.args.hist.now.order c.args.threshold c.args.hist.now.pairs c.pairs.ensures.histogram c.first_above.result (rw c.pairs.ensures.pairs at c.first_above.ensures)

pub returns-clause-fits : goal.returns-clause-fits
returns-clause-fits c = found_none c.args.hist.now.order c.args.threshold c.args.hist.now.pairs c.pairs.ensures.histogram c.first_above.result (rw c.pairs.ensures.pairs at c.first_above.ensures)
