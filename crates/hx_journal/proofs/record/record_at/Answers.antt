use Rattle.std.proofs.Common.{◌≡◌, length, arith, subst, sym}
use Rattle.std.proofs.lemmas.Bool.Decides.{nat_tests}
use Rattle.hx_journal.specs.Journal.{IsEntry, candidate}
use Rattle.hx_journal.proofs.Bodies.{no_entry, no_gate, other_bytes, too_short}
use Rattle.hx_journal.proofs.record.record_at.Goals as goal

pub returns-then-bytes-le-BODY : goal.returns-then-bytes-le-BODY
returns-then-bytes-le-BODY c = too_short c.args.bytes.now c.if-bytes-le-BODY.true

pub returns-then-not-is_entry : goal.returns-then-not-is_entry
returns-then-not-is_entry c =
    let none : IsEntry (candidate c.args.bytes.now) → ⊥ = λ entry. grind (arith, c.if-not-is_entry.ensures.1 (subst IsEntry (sym c.candidate-entry.ensures) entry)) in
    no_entry c.args.bytes.now none

pub returns-in_err-after : goal.returns-in_err-after
returns-in_err-after c = rw c.from_residual.ensures (other_bytes c.args.bytes.now c.candidate-entry.result c.candidate-entry.ensures c.in_err-after.ensures)

pub returns-then-is_empty : goal.returns-then-is_empty
returns-then-is_empty c =
    let none : length c.in_ok-after.after.now ≡ 0 = grind (arith, nat_tests) in
    no_gate c.args.bytes.now c.in_ok-after.after.now c.candidate-entry.result c.candidate-entry.ensures c.in_ok-after.ensures none
