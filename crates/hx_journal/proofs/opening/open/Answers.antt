use Rattle.std.proofs.Common.{◌≡◌, ◌+◌, ◌*◌, length, rules, string_bytes}
use Rattle.hx_journal.specs.Journal.{journal_file}
use Rattle.hx_journal.proofs.Trimming.{open_passes}
use Rattle.hx_journal.proofs.opening.open.Goals as goal

pub returns-in-Ok-trim-clause-passes : goal.returns-in-Ok-trim-clause-passes
returns-in-Ok-trim-clause-passes g c tells =
    let j = c.in-Ok.journal in
    let file = journal_file c.args.name.now in
    let path : string_bytes c.in_ok-file.file ≡ file = c.in_ok-file.ensures in
    let place : c.in-Some.len ≡ length j.header + 33 * length j.records + 1 = search rules in
    let named : c.as_str.result.now ≡ file = search rules in
    open_passes g.S.Store.disk c.args.store.now c.load.new.store c.trim.new.store file j c.in-Some.len tells (c.load.ensures.passes tells)
    (rw path at c.in-Ok.ensures.stable tells) (rw path at c.in-Ok.ensures.opened tells) place (rw named at c.trim.ensures.passes)

pub returns-in-Err-Failed-clause-passes : goal.returns-in-Err-Failed-clause-passes
returns-in-Err-Failed-clause-passes g c tells =
    let j = c.in-Ok.journal in
    let file = journal_file c.args.name.now in
    let path : string_bytes c.in_ok-file.file ≡ file = c.in_ok-file.ensures in
    let place : c.in-Some.len ≡ length j.header + 33 * length j.records + 1 = search rules in
    let named : c.as_str.result.now ≡ file = search rules in
    open_passes g.S.Store.disk c.args.store.now c.load.new.store c.trim.new.store file j c.in-Some.len tells (c.load.ensures.passes tells)
    (rw path at c.in-Ok.ensures.stable tells) (rw path at c.in-Ok.ensures.opened tells) place (rw named at c.trim.ensures.passes)

pub returns-clause-passes : goal.returns-clause-passes
returns-clause-passes g c tells =
    let j = c.in-Ok.journal in
    let file = journal_file c.args.name.now in
    let path : string_bytes c.in_ok-file.file ≡ file = c.in_ok-file.ensures in
    let place : c.in-Some.len ≡ length j.header + 33 * length j.records + 1 = search rules in
    let named : c.as_str.result.now ≡ file = search rules in
    open_passes g.S.Store.disk c.args.store.now c.load.new.store c.trim.new.store file j c.in-Some.len tells (c.load.ensures.passes tells)
    (rw path at c.in-Ok.ensures.stable tells) (rw path at c.in-Ok.ensures.opened tells) place (rw named at c.trim.ensures.passes)
