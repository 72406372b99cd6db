use Rattle.std.proofs.Common.{arith, inl, inr}
use Rattle.hx_catalog.proofs.Fielded.{number-none, number-same}
use Rattle.hx_catalog.proofs.fields.number_at.Goals as goal

pub returns-in_err-number : goal.returns-in_err-number
returns-in_err-number c =
    rw c.from_residual-in_err-number.ensures
    (number-none c.args.text.now c.args.key.now c.in_ok-value.value.now c.args.least c.args.most (omega arith) c.in_ok-value.ensures c.in_err-number.ensures)

pub returns-then-number-least : goal.returns-then-number-least
returns-then-number-least c = λ n rest range at.
    let read = c.in_ok-number.ensures in
    let same = number-same c.args.text.now c.args.key.now c.in_ok-value.value.now c.in_ok-number.rest.now rest c.in_ok-number.number n read.0 (omega (arith, range)) c.in_ok-value.ensures read.1 at in
    elim c.then-number-least.either [ inl low ↦ omega (arith, low, same, range) | inr high ↦ omega (arith, high, same, range) ]
