use Rattle.std.proofs.Common.{◌≡◌, ◌<◌, ◌++◌, length, drop, get_or, arith, rules, sym, subst, ap, List, ◌∙◌}
use Rattle.std.proofs.lemmas.List.{take_rest}
use Rattle.hx_journal.specs.declared.record.Record.{Record}
use Rattle.std.proofs.lemmas.Bool.Decides.{nat_tests}
use Rattle.hx_journal.specs.Journal.{AreRecords, BeginsByBody, HasNoBody, front}
use Rattle.hx_journal.proofs.Steps.{records-push}
use Rattle.hx_journal.proofs.Reading.{damage, gate_place, no_body_at, no_gate_at, record_more}
use Rattle.hx_journal.proofs.opening.read_journal.Goals as goal

pub invariant_of-result : goal.invariant_of-result
invariant_of-result c = record {
  heading = c.loop-rest.invariant.heading;
  entries = c.loop-rest.invariant.sound;
  place = gate_place c.args.bytes.now c.extend_from_slice.new.self.items c.loop-rest.records.items c.loop-rest.rest.now c.loop-rest.invariant.form;
}

pub returns-in_default-record_at-clause-refused : goal.returns-in_default-record_at-clause-refused
returns-in_default-record_at-clause-refused c =
    let rest = c.loop-rest.rest.now in
    let some : 0 < length rest = grind (arith, nat_tests) in
    let opened : get_or rest 0 0 ≡ 1 = search (rules, c.if-rest-ne-OPEN.false) in
    let none : HasNoBody (drop 1 rest) = rw (take_rest rest 1) at c.in_default-record_at.ensures in
    rw c.damaged.ensures (damage c.args.bytes.now c.extend_from_slice.new.self.items c.loop-rest.records.items rest c.loop-rest.invariant.form c.loop-rest.invariant.heading c.loop-rest.invariant.sound (no_body_at c.loop-rest.records.items rest some opened none))

pub loop-rest-preserved : goal.loop-rest-preserved
loop-rest-preserved c =
    let rest = c.loop-rest.rest.now in
    let some : 0 < length rest = grind (arith, nat_tests) in
    let opened : get_or rest 0 0 ≡ 1 = search (rules, c.if-rest-ne-OPEN.false) in
    let read = c.in-Some-record_at in
    let begins : BeginsByBody (drop 1 rest) read.entry read.after.now = rw (take_rest rest 1) at read.ensures in
    record {
      heading = c.loop-rest.invariant.heading;
      sound = subst AreRecords (sym c.in_ok-push.ensures.items) (records-push c.loop-rest.records.items read.entry c.loop-rest.invariant.sound begins.0);
      form = record_more c.args.bytes.now c.extend_from_slice.new.self.items rest read.after.now c.loop-rest.records.items read.entry c.loop-rest.invariant.form some opened begins
          ∙ ap (λ (rs : List Record). front c.extend_from_slice.new.self.items rs ++ read.after.now) (sym c.in_ok-push.ensures.items);
      gate = λ none. absurd (omega (arith, none, begins.1));
    }

pub returns-clause-refused : goal.returns-clause-refused
returns-clause-refused c =
    let rest = c.loop-rest.rest.now in
    let none : length rest ≡ 0 = grind (arith, nat_tests) in
    rw c.damaged-2.ensures (damage c.args.bytes.now c.extend_from_slice.new.self.items c.loop-rest.records.items rest c.loop-rest.invariant.form c.loop-rest.invariant.heading c.loop-rest.invariant.sound (no_gate_at c.loop-rest.records.items rest none (c.loop-rest.invariant.gate none)))
