use Rattle.hx_outside.proofs.Runs.{same_next}
use Rattle.hx_publish.proofs.Steps.{rename_next}
use Rattle.hx_xmatch.proofs.Composed.{same_is_but, same_is_published, synced_in_each}
use Rattle.hx_xmatch.proofs.output.sync_and_rename.Goals as goal

pub returns-clause-passes : goal.returns-clause-passes
returns-clause-passes g c tells = λ bytes is.
    let d = g.S.Store.disk in
    let s = c.sync.ensures.acts tells in
    let r = c.rename.ensures.acts s.passes.told in
    let full = synced_in_each d _ tells _ _ bytes s.passes (c.in_ok-sync.ensures.done tells) is in
    rename_next _ _ bytes c.requires d _ tells _ _ full (same_is_published d _ tells _ _ _ bytes s.passes) r.passes

pub returns-clause-memory : goal.returns-clause-memory
returns-clause-memory g c tells = λ memory.
    let d = g.S.Store.disk in
    let s = c.sync.ensures.acts tells in
    let r = c.rename.ensures.acts s.passes.told in
    same_is_but d _ tells _ _ (same_next d _ _ _ tells s.passes (r.unchanged memory))
