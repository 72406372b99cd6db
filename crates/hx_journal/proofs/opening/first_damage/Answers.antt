use Rattle.std.proofs.Common.{◌≡◌, ◌≢◌, ◌<◌, length, drop, get_or, arith, rules}
use Rattle.std.proofs.lemmas.Bool.Decides.{nat_tests}
use Rattle.std.proofs.lemmas.List.{take_rest}
use Rattle.hx_journal.specs.Journal.{BeginsByBody, HasNoBody}
use Rattle.hx_journal.proofs.Damage.{broken_at, one_read, whole_at}
use Rattle.hx_journal.proofs.Reading.{no_body_at, no_gate_at}
use Rattle.hx_journal.proofs.opening.first_damage.Goals as goal

pub returns-then-gate-ne-OPEN : goal.returns-then-gate-ne-OPEN
returns-then-gate-ne-OPEN c =
    let rest = c.loop-gate.rest.now in
    let some : 0 < length rest = grind (arith, nat_tests) in
    let shut : get_or rest 0 0 ≢ 1 = search (rules, c.if-gate-ne-OPEN.true) in
    whole_at c.args.bytes.now rest c.loop-gate.invariant some shut

pub returns-in_default-record_at : goal.returns-in_default-record_at
returns-in_default-record_at c =
    let rest = c.loop-gate.rest.now in
    let read = c.loop-gate.invariant in
    let some : 0 < length rest = grind (arith, nat_tests) in
    let opened : get_or rest 0 0 ≡ 1 = search (rules, c.if-gate-ne-OPEN.false) in
    let none : HasNoBody (drop 1 rest) = rw (take_rest rest 1) at c.in_default-record_at.ensures in
    rw c.place_of.ensures (broken_at c.args.bytes.now rest read (no_body_at read.records rest some opened none))

pub loop-gate-preserved : goal.loop-gate-preserved
loop-gate-preserved c =
    let rest = c.loop-gate.rest.now in
    let found = c.in-Some-record_at in
    let some : 0 < length rest = grind (arith, nat_tests) in
    let opened : get_or rest 0 0 ≡ 1 = search (rules, c.if-gate-ne-OPEN.false) in
    let begins : BeginsByBody (drop 1 rest) found._entry found.after.now = rw (take_rest rest 1) at found.ensures in
    one_read c.args.bytes.now rest c.loop-gate.invariant found.after.now found._entry some opened begins

pub returns : goal.returns
returns c =
    let rest = c.loop-gate.rest.now in
    let read = c.loop-gate.invariant in
    let none : length rest ≡ 0 = grind (arith, nat_tests) in
    rw c.place_of-2.ensures (broken_at c.args.bytes.now rest read (no_gate_at read.records rest none (read.gate none)))
