use Rattle.hx_hist.proofs.Tallies.{no_counts, no_total, tally_of_none}
use Rattle.hx_hist.proofs.tally.Tally.new.Goals as goal

pub invariant_of-result : goal.invariant_of-result
invariant_of-result c = rw (c.in_ok-table.ensures, c.new.ensures.items) (tally_of_none c.args.order c.table_size.result c.requires c.table_size.ensures)

pub returns-clause-counts : goal.returns-clause-counts
returns-clause-counts c = rw (c.in_ok-table.ensures, c.new.ensures.items) (no_counts c.table_size.result)

pub returns-clause-total : goal.returns-clause-total
returns-clause-total c = rw (c.in_ok-table.ensures, c.new.ensures.items) (no_total c.table_size.result)
