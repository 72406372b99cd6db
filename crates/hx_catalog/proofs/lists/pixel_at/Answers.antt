use Rattle.std.proofs.Common.{None, arith, rules, ◌≡◌}
use Rattle.hx_catalog.proofs.Listed.{order-first}
use Rattle.hx_catalog.proofs.lists.pixel_at.Goals as goal

pub returns-then-order-from : goal.returns-then-order-from
returns-then-order-from c = λ pixel more line at.
    let read = c.in_ok-order.ensures in
    let first = order-first c.args.text.now c.in_ok-order.rest.now more c.in_ok-order.order pixel read.0 read.1 line at in
    omega (arith, first.0, line.order)

pub returns-in_err-number : goal.returns-in_err-number
returns-in_err-number c =
    let is : c.from_residual-in_err-number.result ≡ None = search rules in
    rw is (λ pixel more line at.
    let read = c.in_ok-order.ensures in
    let first = order-first c.args.text.now c.in_ok-order.rest.now more c.in_ok-order.order pixel read.0 read.1 line at in
    c.in_err-number.ensures pixel.number more line.number first.1)
