use Rattle.hx_outside.specs.Folders.{MayCut, SameBut}
use Rattle.hx_outside.proofs.Calls.{cut_others}
use Rattle.hx_outside.proofs.Runs.{weaker}
use Rattle.hx_xmatch.proofs.output.empty.Goals as goal

pub returns-in-Ok-clause-passes : goal.returns-in-Ok-clause-passes
returns-in-Ok-clause-passes g c tells =
    let d = g.S.Store.disk in
    let store = c.args.store.now in
    weaker d store _ (MayCut c.args.tmp.now 0 (d.reads store)) (SameBut c.args.tmp.now) (c.cut.ensures.acts tells).passes (λ f h was s. cut_others c.args.tmp.now 0 (d.reads store) f h s) tells

pub returns-in-Err-Failed-clause-passes : goal.returns-in-Err-Failed-clause-passes
returns-in-Err-Failed-clause-passes g c tells =
    let d = g.S.Store.disk in
    let store = c.args.store.now in
    weaker d store _ (MayCut c.args.tmp.now 0 (d.reads store)) (SameBut c.args.tmp.now) (c.cut.ensures.acts tells).passes (λ f h was s. cut_others c.args.tmp.now 0 (d.reads store) f h s) tells
