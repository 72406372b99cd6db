use Rattle.std.proofs.Common.{◌∙◌, ◌∷◌, ap, get_or, sym}
use Rattle.hx_rows.proofs.Numbers.{empty-no_minus, number-minus, number-plain}
use Rattle.hx_rows.proofs.number.sign_and_digits.Goals as goal
use Rattle.hx_rows.proofs.number.sign_and_digits.Goals.{in_default-via-in-Some+else-first-eq45, in_default-via-in_default}

pub returns-in-Some : goal.returns-in-Some
returns-in-Some c =
    let digits = c.in-Some.digits.now in
    number-minus c.args.text.now digits (c.in-Some.ensures.cases.0 ∙ ap (λ first. first ∷ digits) c.if-first-eq45.true)

pub returns-in_default : goal.returns-in_default
returns-in_default c =
    number-plain c.args.text.now (elim c.in_default.branch [
      | in_default-via-in-Some+else-first-eq45 w ↦ λ h. w.if-first-eq45.false (sym (ap (λ text. get_or text 0 0) w.in-Some.ensures.cases.0) ∙ h)
      | in_default-via-in_default w ↦ empty-no_minus c.args.text.now w.in_default.ensures.cases
    ])
