use Rattle.hx_catalog.proofs.Whole.{is-cut}
use Rattle.hx_catalog.proofs.finished.catalogues_are_cut.Goals as goal

pub returns : goal.returns
returns c = is-cut c.partitions_of_rows.ensures.each_once c.partitions_of_rows.ensures.disjoint
