use Rattle.std.proofs.Common.{arith, length, ◌-◌, ◌≤◌}
use Rattle.std.proofs.lemmas.Bool.{le-leb, leb-true}
use Rattle.hx_base.specs.Pixels.{end_position, first_position}
use Rattle.hx_catalog.proofs.Listed.{last-ends}
use Rattle.hx_catalog.proofs.lists.end_before.Goals as goal

pub returns-in-Some : goal.returns-in-Some
returns-in-Some c =
    let pixels = c.args.pixels.now in
    let last = c.in-Some.ensures.item.3 in (
      λ h.
          let ended : end_position c.in-Some.last.now ≤ first_position c.args.pixel.now =
          omega (arith, leb-true c.end_position.result c.first_position.result h, c.end_position.ensures.value, c.first_position.ensures.value) in
          last-ends pixels c.in-Some.last.now c.args.pixel.now c.requires.list last.1 ended,
      λ h.
          let ended : end_position c.in-Some.last.now ≤ first_position c.args.pixel.now = rw (last.1 c.args.pixel.now) (h (length pixels - 1) c.args.pixel.now (omega (arith, last.0))) in
          le-leb c.end_position.result c.first_position.result (omega (arith, ended, c.end_position.ensures.value, c.first_position.ensures.value)),
    )
