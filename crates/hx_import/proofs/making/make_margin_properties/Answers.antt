use Rattle.hx_import.proofs.Working.{margins_when_due}
use Rattle.hx_import.proofs.making.make_margin_properties.Goals as goal

pub margin_properties_file-requires-clause-numbers : goal.margin_properties_file-requires-clause-numbers
margin_properties_file-requires-clause-numbers g c = λ p.
    let clear = c.requires.work.clear in
    rw (c.rows_of_kind-margin.ensures, c.rows.ensures.rows)
    (margins_when_due g.J.Job.of c.args.book.now c.requires.work c.args.cut.now.plan c.args.cut.now.tree c.requires.cut p c.records.result.now c.records.ensures.records (c.records.ensures.follow p clear) (c.records.ensures.numbers p clear))
