use Rattle.hx_catalog.proofs.Own.{finished-sentences, sentences-finished}
use Rattle.hx_catalog.proofs.finished.finished_catalogues_keep_sentences.Goals as goal

pub returns-clause-finished : goal.returns-clause-finished
returns-clause-finished c = λ folder name properties parts rows keeps. sentences-finished c.partitions_of_rows.ensures.each_once c.partitions_of_rows.ensures.disjoint c.sorted_rows_of_lists.ensures.as_often folder name properties parts rows keeps

pub returns-clause-sentences : goal.returns-clause-sentences
returns-clause-sentences c = λ folder name settings rows is. finished-sentences c.partitions_of_rows.ensures.each_once c.partitions_of_rows.ensures.disjoint c.sorted_rows_of_lists.ensures.as_often folder name settings rows is
