use Rattle.std.proofs.Common.{None, arith, rules, ◌≡◌}
use Rattle.hx_catalog.proofs.Listed.{next-of-line, one-pixel}
use Rattle.hx_catalog.specs.Lists.{MayFollow}
use Rattle.hx_catalog.proofs.lists.next_pixel.Goals as goal

pub returns-in_err-pixel : goal.returns-in_err-pixel
returns-in_err-pixel c =
    let is : c.from_residual.result ≡ None = search rules in
    rw is (λ pixel more list at. c.in_err-pixel.ensures pixel more (next-of-line c.args.pixels.now pixel list) at)

pub returns-then-not-may_follow : goal.returns-then-not-may_follow
returns-then-not-may_follow c = λ pixel more list at.
    let read = c.in_ok-pixel.ensures in
    let same = one-pixel c.args.text.now c.in_ok-pixel.rest.now more c.in_ok-pixel.pixel pixel read.0 read.1 (next-of-line c.args.pixels.now pixel list) at in
    let follows : MayFollow c.args.pixels.now c.in_ok-pixel.pixel = rw same list in
    grind (arith, c.may_follow.ensures.1 follows)
