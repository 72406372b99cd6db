use Rattle.hx_journal.proofs.Recorded.{begun, recorded, still_full, still_ready}
use Rattle.hx_journal.proofs.Trimming.{at_ok}
use Rattle.hx_journal.proofs.recording.record_task.Goals as goal

pub returns-in_err-publish-clause-passes : goal.returns-in_err-publish-clause-passes
returns-in_err-publish-clause-passes g c ready = begun g.S.Store.disk c.args.store.now c.publish.new.store c.publish.new.store c.args.tmp.now c.args.name.now c.args.bytes.now c.args.journal.now c.args.entry c.requires.apart ready (c.publish.ensures.passes ready.told)

pub returns-clause-passes : goal.returns-clause-passes
returns-clause-passes g c ready =
    let mid = still_ready g.S.Store.disk c.args.store.now c.publish.new.store c.publish.new.store c.args.tmp.now c.args.name.now c.args.bytes.now c.args.journal.now c.args.entry c.requires.apart ready (c.publish.ensures.passes ready.told) in
    recorded g.S.Store.disk c.args.store.now c.publish.new.store c.note.new.store c.args.tmp.now c.args.name.now c.args.bytes.now c.args.journal.now c.args.entry c.requires.apart ready (c.publish.ensures.passes ready.told) (c.in_ok-publish.ensures.done ready.told) (c.note.ensures.passes mid)

pub returns-clause-there : goal.returns-clause-there
returns-clause-there g c ready =
    let mid = still_ready g.S.Store.disk c.args.store.now c.publish.new.store c.publish.new.store c.args.tmp.now c.args.name.now c.args.bytes.now c.args.journal.now c.args.entry c.requires.apart ready (c.publish.ensures.passes ready.told) in
    at_ok c.note.result _ (still_full g.S.Store.disk c.args.store.now c.publish.new.store c.note.new.store c.args.tmp.now c.args.name.now c.args.bytes.now c.args.journal.now c.args.entry c.requires.apart ready (c.publish.ensures.passes ready.told) (c.in_ok-publish.ensures.done ready.told) (c.note.ensures.passes mid))

pub returns-clause-done : goal.returns-clause-done
returns-clause-done g c ready = c.note.ensures.done (still_ready g.S.Store.disk c.args.store.now c.publish.new.store c.publish.new.store c.args.tmp.now c.args.name.now c.args.bytes.now c.args.journal.now c.args.entry c.requires.apart ready (c.publish.ensures.passes ready.told))
