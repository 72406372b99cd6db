use Rattle.hx_xmatch.proofs.Composed.{but_twice}
use Rattle.hx_xmatch.proofs.output.begin.Goals as goal

pub returns-clause-passes : goal.returns-clause-passes
returns-clause-passes g c tells =
    let run = c.empty.ensures.passes tells in
    but_twice g.S.Store.disk _ tells _ _ _ run (c.add.ensures.passes run.told)
