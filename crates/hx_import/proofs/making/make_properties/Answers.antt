use Rattle.hx_import.proofs.Working.{rows_when_due}
use Rattle.hx_import.proofs.making.make_properties.Goals as goal

pub properties_file-requires-clause-numbers : goal.properties_file-requires-clause-numbers
properties_file-requires-clause-numbers g c = λ p.
    let clear = c.requires.work.clear in
    rw (c.rows_of_kind-rows.ensures, c.count_of_kind-partitions.ensures)
    (rows_when_due g.J.Job.of c.partitions_of_rows.ensures.each_once c.requires.asked c.args.book.now c.requires.work p c.records-records.result.now c.records-records.ensures.records (c.records-records.ensures.follow p clear) (c.records-records.ensures.numbers p clear))
