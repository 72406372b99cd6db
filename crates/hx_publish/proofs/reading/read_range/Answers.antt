use Rattle.hx_outside.proofs.Runs.{same_next}
use Rattle.hx_publish.proofs.reading.read_range.Goals as goal

pub returns-clause-passes : goal.returns-clause-passes
returns-clause-passes g c tells =
    let found = (c.len.ensures.acts tells).passes in
    same_next g.S.Store.disk c.args.store.now c.len.new.self c.read_bytes.new.store tells found (c.read_bytes.ensures.passes found.told)
