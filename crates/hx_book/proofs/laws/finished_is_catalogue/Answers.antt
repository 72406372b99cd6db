use Rattle.hx_book.proofs.Finished.{finished}
use Rattle.hx_book.proofs.laws.finished_is_catalogue.Goals as goal

pub returns : goal.returns
returns c = λ job f few name limits whole. finished job f few name limits whole c.partitions_of_rows.ensures.disjoint
