use Rattle.hx_publish.proofs.Steps.{cut_first, append_next, sync_next, rename_next, full_in_each, in_each, read_there, stable_there}
use Rattle.hx_publish.proofs.publishing.publish.Goals as goal

pub returns-in_err-cut-clause-passes : goal.returns-in_err-cut-clause-passes
returns-in_err-cut-clause-passes g c tells = cut_first _ _ _ c.requires g.S.Store.disk _ tells _ (c.cut.ensures.acts tells).passes

pub returns-in_err-append-clause-passes : goal.returns-in_err-append-clause-passes
returns-in_err-append-clause-passes g c tells =
    let a = c.cut.ensures.acts tells in
    let b = c.append.ensures.acts a.passes.told in
    let d = g.S.Store.disk in
    append_next _ _ _ c.requires d _ tells _ _ (cut_first _ _ _ c.requires d _ tells _ a.passes) b.passes

pub returns-in_err-sync-clause-passes : goal.returns-in_err-sync-clause-passes
returns-in_err-sync-clause-passes g c tells =
    let a = c.cut.ensures.acts tells in
    let b = c.append.ensures.acts a.passes.told in
    let s = c.sync.ensures.acts b.passes.told in
    let d = g.S.Store.disk in
    sync_next _ _ _ c.requires d _ tells _ _ (append_next _ _ _ c.requires d _ tells _ _ (cut_first _ _ _ c.requires d _ tells _ a.passes) b.passes) s.passes

pub returns-clause-passes : goal.returns-clause-passes
returns-clause-passes g c tells =
    let a = c.cut.ensures.acts tells in
    let b = c.append.ensures.acts a.passes.told in
    let s = c.sync.ensures.acts b.passes.told in
    let r = c.rename.ensures.acts s.passes.told in
    let d = g.S.Store.disk in
    let full = full_in_each d _ _ _ _ _ _ (c.in_ok-cut.ensures.done tells) (c.in_ok-append.ensures.done a.passes.told) s.passes.seen (c.in_ok-sync.ensures.done b.passes.told) in
    rename_next _ _ _ c.requires d _ tells _ _ full (sync_next _ _ _ c.requires d _ tells _ _ (append_next _ _ _ c.requires d _ tells _ _ (cut_first _ _ _ c.requires d _ tells _ a.passes) b.passes) s.passes) r.passes

pub returns-clause-done : goal.returns-clause-done
returns-clause-done g c tells =
    let a = c.cut.ensures.acts tells in
    let b = c.append.ensures.acts a.passes.told in
    let s = c.sync.ensures.acts b.passes.told in
    let d = g.S.Store.disk in
    let full = full_in_each d _ _ _ _ _ _ (c.in_ok-cut.ensures.done tells) (c.in_ok-append.ensures.done a.passes.told) s.passes.seen (c.in_ok-sync.ensures.done b.passes.told) in
    in_each _ _ _ c.requires d _ _ c.rename.result full (c.rename.ensures.whole s.passes.told (c.in_ok-sync.ensures.done b.passes.told))

pub returns-clause-reads : goal.returns-clause-reads
returns-clause-reads g c tells =
    let s = c.sync.ensures.acts (c.append.ensures.acts (c.cut.ensures.acts tells).passes.told).passes.told in
    let r = c.rename.ensures.acts s.passes.told in
    read_there _ _ _ c.requires g.S.Store.disk _ c.rename.result r.passes.told (returns-clause-done g c tells)

pub returns-clause-stable : goal.returns-clause-stable
returns-clause-stable g c tells =
    let s = c.sync.ensures.acts (c.append.ensures.acts (c.cut.ensures.acts tells).passes.told).passes.told in
    let r = c.rename.ensures.acts s.passes.told in
    stable_there _ _ _ c.requires g.S.Store.disk _ c.rename.result r.passes.told (returns-clause-done g c tells)
