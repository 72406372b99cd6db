use Rattle.std.proofs.Common.{◌≡◌, ◌++◌, ◌∷◌, [], ◌+◌, ◌*◌, List, ℕ, OnOk, length, length-append, ap, subst, sym, rules, arith}
use Rattle.hx_outside.specs.Disk.{Passes}
use Rattle.hx_journal.specs.Journal.{AreRecords, body, IsRecord, IsAtRest, Notes}
use Rattle.hx_journal.proofs.Steps.{not_noted, ready_at, records-push}
use Rattle.hx_journal.proofs.noting.Journal.note.Goals as goal

pub returns-clause-passes : goal.returns-clause-passes
returns-clause-passes g c ready =
    let j = c.args.self.now in
    let r = c.args.entry in
    let one : IsRecord r = record { entry = c.requires; number = omega arith; len = omega arith; rows = omega arith } in
    let place : c.self.inside.gate ≡ length j.header + 33 * length j.records = search rules in
    let bytes : c.deref.result.now ≡ body r ++ 0 ∷ [] = search rules in
    let named : c.as_str.result.now ≡ j.file = search rules in
    subst (λ (n : List ℕ). Passes g.S.Store.disk c.args.store.now c.note_in.new.store (Notes n j.header j.records r)) named
    (c.note_in.ensures.passes j.header j.records r one place bytes ready.told
    (subst (λ (n : List ℕ). IsAtRest g.S.Store.disk c.args.store.now n j.header j.records) (sym named) ready.rest))

pub returns-in_err-bytes-clause-passes : goal.returns-in_err-bytes-clause-passes
returns-in_err-bytes-clause-passes g c ready = not_noted g.S.Store.disk c.args.store.now c.args.self.now.file c.args.self.now.header c.args.self.now.records c.args.entry ready.told ready.rest

pub returns-in_err-push_body-clause-passes : goal.returns-in_err-push_body-clause-passes
returns-in_err-push_body-clause-passes g c ready = not_noted g.S.Store.disk c.args.store.now c.args.self.now.file c.args.self.now.header c.args.self.now.records c.args.entry ready.told ready.rest

pub returns-in_err-push-clause-passes : goal.returns-in_err-push-clause-passes
returns-in_err-push-clause-passes g c ready = not_noted g.S.Store.disk c.args.store.now c.args.self.now.file c.args.self.now.header c.args.self.now.records c.args.entry ready.told ready.rest

pub returns-in_err-push-2-clause-passes : goal.returns-in_err-push-2-clause-passes
returns-in_err-push-2-clause-passes g c ready = not_noted g.S.Store.disk c.args.store.now c.args.self.now.file c.args.self.now.header c.args.self.now.records c.args.entry ready.told ready.rest

pub invariant_of-self-2 : goal.invariant_of-self-2
invariant_of-self-2 g c =
    let rs = c.self.inside.records.items in
    let r = c.args.entry in
    let one : IsRecord r = record { entry = c.requires; number = omega arith; len = omega arith; rows = omega arith } in
    let more : c.push-2.new.self.items ≡ rs ++ r ∷ [] = c.in_ok-push-2.ensures.items in
    record {
      heading = c.self.invariant.heading;
      entries = subst AreRecords (sym more) (records-push rs r c.self.invariant.entries one);
      place = omega (arith, c.in-Some.ensures, c.self.invariant.place, ap length more, length-append rs (r ∷ []));
    }

pub returns-clause-done : goal.returns-clause-done
returns-clause-done g c ready =
    let j = c.args.self.now in
    let r = c.args.entry in
    let one : IsRecord r = record { entry = c.requires; number = omega arith; len = omega arith; rows = omega arith } in
    let place : c.self.inside.gate ≡ length j.header + 33 * length j.records = search rules in
    let bytes : c.deref.result.now ≡ body r ++ 0 ∷ [] = search rules in
    let named : c.as_str.result.now ≡ j.file = search rules in
    let rest = subst (λ (n : List ℕ). IsAtRest g.S.Store.disk c.args.store.now n j.header j.records) (sym named) ready.rest in
    let told = (c.note_in.ensures.passes j.header j.records r one place bytes ready.told rest).told in
    ready_at g.S.Store.disk c.note_in.new.store j (j.records ++ r ∷ []) c.note_in.result told
    (subst (λ (n : List ℕ). OnOk c.note_in.result (IsAtRest g.S.Store.disk c.note_in.new.store n j.header (j.records ++ r ∷ []))) named
    (c.note_in.ensures.done j.header j.records r one place bytes ready.told rest))
