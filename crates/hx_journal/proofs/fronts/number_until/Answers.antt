use Rattle.std.proofs.Common.{◌≡◌, ◌+◌, None, arith, rules, take}
use Rattle.std.proofs.lemmas.Int.Digits.{digits_more, digits_value_more}
use Rattle.std.proofs.lemmas.List.{take_rest}
use Rattle.hx_journal.specs.Fronts.{HasNoLeadingZero}
use Rattle.hx_journal.proofs.Digits.{none_left, none_other, none_zero, some_number}
use Rattle.hx_journal.proofs.fronts.number_until.Goals as goal

pub returns-then-not-has_no_leading_zero : goal.returns-then-not-has_no_leading_zero
returns-then-not-has_no_leading_zero c =
    none_zero c.args.text.now c.loop-i.i c.args.end c.loop-i-test.true c.loop-i.invariant.digits c.requires c.if-text-i.true
    (λ form. grind (arith, c.if-not-has_no_leading_zero.ensures.1 form))

pub returns-then-text-i : goal.returns-then-text-i
returns-then-text-i c =
    let text = c.args.text.now in
    let value = c.loop-i.invariant.value in
    let form : HasNoLeadingZero (take c.loop-i.i text) = search (rules, c.has_no_leading_zero.ensures.0) in
    let read = some_number text c.loop-i.i c.args.end c.loop-i-test.true c.loop-i.invariant.digits c.requires c.if-text-i.true form (rw value at c.loop-i.invariant.fits) in
    rw (take_rest text (c.loop-i.i + 1), value) read

pub returns-in_err-number : goal.returns-in_err-number
returns-in_err-number c =
    let is : c.from_residual.result ≡ None = search rules in
    rw is (none_other c.args.text.now c.loop-i.i c.args.end c.loop-i-test.true c.loop-i.invariant.digits c.requires c.if-text-i.false (rw c.loop-i.invariant.value at c.in_err-number.ensures))

pub loop-i-preserved : goal.loop-i-preserved
loop-i-preserved c =
    let text = c.args.text.now in
    let step = c.in_ok-number.ensures in
    let i = c.loop-i.i in record {
      digits = digits_more 10 text i c.loop-i-test.true c.loop-i.invariant.digits step.0;
      value = cc (step.1, c.loop-i.invariant.value, digits_value_more 10 text i c.loop-i-test.true);
      fits = step.2;
    }

pub returns : goal.returns
returns c = none_left c.args.text.now c.loop-i.i c.args.end c.loop-i-test.false c.loop-i.invariant.digits c.requires
