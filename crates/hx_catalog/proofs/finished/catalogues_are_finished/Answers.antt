use Rattle.hx_catalog.proofs.Own.{is-finished}
use Rattle.hx_catalog.proofs.finished.catalogues_are_finished.Goals as goal

pub returns : goal.returns
returns c = λ folder name settings rows is. is-finished c.partitions_of_rows.ensures.each_once c.partitions_of_rows.ensures.disjoint c.sorted_rows_of_lists.ensures.as_often folder name settings rows is
