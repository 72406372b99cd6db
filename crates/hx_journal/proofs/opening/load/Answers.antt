use Rattle.std.proofs.Common.{string_bytes}
use Rattle.hx_journal.proofs.Trimming.{at_ok}
use Rattle.hx_outside.proofs.Runs.{same_next, stable_next}
use Rattle.hx_journal.proofs.opening.load.Goals as goal

pub returns-in_err-bytes-clause-passes : goal.returns-in_err-bytes-clause-passes
returns-in_err-bytes-clause-passes g c tells =
    let synced = (c.sync.ensures.acts tells).passes in
    same_next g.S.Store.disk c.args.store.now c.sync.new.self c.read_file.new.store tells synced (c.read_file.ensures.passes synced.told)

pub returns-in_default-clause-passes : goal.returns-in_default-clause-passes
returns-in_default-clause-passes g c tells =
    let synced = (c.sync.ensures.acts tells).passes in
    same_next g.S.Store.disk c.args.store.now c.sync.new.self c.read_file.new.store tells synced (c.read_file.ensures.passes synced.told)

pub returns-clause-passes : goal.returns-clause-passes
returns-clause-passes g c tells =
    let synced = (c.sync.ensures.acts tells).passes in
    same_next g.S.Store.disk c.args.store.now c.sync.new.self c.read_file.new.store tells synced (c.read_file.ensures.passes synced.told)

pub returns-clause-stable : goal.returns-clause-stable
returns-clause-stable g c tells =
    let synced = (c.sync.ensures.acts tells).passes in
    let d = g.S.Store.disk in
    at_ok c.read_journal.result _ (stable_next d c.sync.new.self c.read_file.new.store (string_bytes c.args.file) (c.read_file.ensures.passes synced.told) (rw c.as_str.ensures.value at c.in_ok-sync.ensures.done tells))
