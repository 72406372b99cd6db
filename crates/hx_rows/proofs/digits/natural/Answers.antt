use Rattle.std.proofs.Common.{arith, length, sym, ◌-◌, ◌∙◌}
use Rattle.std.proofs.Math.Nat.{one-le-pow}
use Rattle.std.proofs.lemmas.Bool.Decides.{nat_tests}
use Rattle.hx_rows.proofs.Spelling.{natural-empty, natural-long, natural-short}
use Rattle.hx_rows.proofs.digits.natural.Goals as goal
use Rattle.hx_rows.proofs.digits.natural.Goals.{then-is_empty-via-then-is_empty, then-is_empty-via-else-is_empty+then-text-gt-MOST_DIGITS}

pub returns-then-is_empty : goal.returns-then-is_empty
returns-then-is_empty c =
    elim c.then-is_empty.branch [
      | then-is_empty-via-then-is_empty w ↦ sym (natural-empty c.args.text.now (grind (arith, nat_tests)))
      | then-is_empty-via-else-is_empty+then-text-gt-MOST_DIGITS w ↦ sym (natural-long c.args.text.now w.if-text-gt-MOST_DIGITS.true)
    ]

pub take_eight-value-requires-clause-room : goal.take_eight-value-requires-clause-room
take_eight-value-requires-clause-room c = one-le-pow (19 - length c.args.text.now) 10 (omega arith)

pub returns : goal.returns
returns c =
    c.take_each.ensures ∙ c.take_eight-value-2.ensures.same ∙ c.take_eight-value.ensures.same
    ∙ natural-short c.args.text.now (grind (arith, nat_tests)) c.if-text-gt-MOST_DIGITS.false
