use Rattle.std.proofs.Common.{◌≡◌, ◌∙◌, ◌*◌, sym, ap, length, eqb, true}
use Rattle.hx_pqread.specs.declared.levels.Told.{Told}
use Rattle.hx_pqread.specs.Levels.{given}
use Rattle.hx_pqread.specs.Numbers.{size, numbers_at}
use Rattle.hx_pqread.specs.Values.{spread}
use Rattle.hx_pqread.specs.Bodies.{body_parts}
use Rattle.hx_pqread.proofs.Spreading.{kept_body, some_parts, values_are}
use Rattle.hx_pqread.proofs.page.keep_body.Goals as goal

pub returns-in_ok-keep-in-Some : goal.returns-in_ok-keep-in-Some
returns-in_ok-keep-in-Some c =
    let layout = c.args.layout in
    let told = c.in-Some.told in
    let numbers = c.in-Some.numbers.now in
    let parts = some_parts (body_parts layout.is_optional c.args.count c.args.body.now) told numbers c.in-Some.ensures.value in
    let given_is : told.given ≡ given parts.0 = ap (λ (t : Told). t.given) parts.2 in
    let fits : eqb (length numbers) (given parts.0 * size layout.is_wide) ≡ true = rw (← given_is, ← c.size.ensures) (sym c.is_multiple.ensures ∙ c.if-not-is_multiple.false) in (
      spread parts.0 (numbers_at layout.is_wide (given parts.0) numbers),
      values_are layout c.args.count c.args.body.now parts.0 numbers parts.1 fits,
      kept_body layout.is_wide parts.0 numbers told c.args.kept.now c.keep.new.self parts.2 c.in_ok-keep-in-Some.ensures.numbers c.in_ok-keep-in-Some.ensures.count c.in_ok-keep-in-Some.ensures.absent,
    )
