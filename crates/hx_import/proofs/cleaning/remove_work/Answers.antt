use Rattle.std.proofs.Common.{get_or}
use Rattle.std.proofs.lemmas.List.{get_or_default}
use Rattle.hx_journal.specs.declared.record.Record.{Record}
use Rattle.hx_import.proofs.Cleaned.{journal_next, keeps_next, none_removed, one_removed}
use Rattle.hx_import.proofs.cleaning.remove_work.Goals as goal

no_entry : Record
no_entry = record { task = record { kind = 0; number = 0 }; len = 0; rows = 0 }

pub loop-entry-init : goal.loop-entry-init
loop-entry-init g c = none_removed g.S.Store.disk c.args.name.now c.args.records.now c.args.store.now

pub returns-in_err-remove_work_of-clause-passes : goal.returns-in_err-remove_work_of-clause-passes
returns-in_err-remove_work_of-clause-passes g c tells =
    let run = c.loop-entry.invariant.passes tells in
    keeps_next g.S.Store.disk _ _ _ c.args.name.now tells run (c.remove_work_of.ensures.passes run.told)

pub returns-in_err-remove_work_of-clause-journal : goal.returns-in_err-remove_work_of-clause-journal
returns-in_err-remove_work_of-clause-journal g c tells =
    let run = c.loop-entry.invariant.journal tells in
    journal_next g.S.Store.disk c.args.name.now _ _ _ tells run (c.remove_work_of.ensures.journal run.told)

pub loop-entry-preserved : goal.loop-entry-preserved
unfolding no_entry
loop-entry-preserved g c =
    let step = c.in_ok-remove_work_of.ensures in
    let records = c.args.records.now in
    let k = c.loop-entry.entry-index in
    let entry = get_or records k no_entry in
    one_removed g.S.Store.disk c.args.name.now records c.args.store.now c.loop-entry.store c.remove_work_of.new.store k entry (get_or_default records k no_entry entry c.loop-entry-test.true) c.loop-entry-test.true c.loop-entry.invariant
    step.passes step.journal step.gone step.still step.cause.later
