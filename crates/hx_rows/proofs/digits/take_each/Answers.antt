use Rattle.std.proofs.Common.{◌∙◌, arith, get_or, sym}
use Rattle.hx_rows.proofs.Spelling.{TakesDigit, after-all, after-other, digit-missing, takes-digit}
use Rattle.hx_rows.proofs.digits.take_each.Goals as goal

pub returns-in_default : goal.returns-in_default
returns-in_default c =
    let byte = get_or c.args.text.now c.loop-byte.byte-index 0 in
    after-other c.args.start c.args.text.now c.loop-byte.byte-index c.loop-byte-test.true (digit-missing byte (sym c.in_default.is ∙ c.digit.ensures))

-- what the step takes
taken : (c : goal.In-Some) → TakesDigit c.args.start c.loop-byte.value c.in-Some.digit c.args.text.now c.loop-byte.byte-index
taken c =
    let inv = c.loop-byte.invariant in
    takes-digit c.args.start c.loop-byte.value c.in-Some.digit c.args.text.now c.loop-byte.byte-index c.loop-byte-test.true c.requires.short inv.digits inv.value inv.room
    (sym c.in-Some.is ∙ c.digit.ensures)

pub overflow_mul-value : goal.overflow_mul-value
overflow_mul-value c = let t = taken c in omega (arith, t.fits)

pub overflow_add-value : goal.overflow_add-value
overflow_add-value c = let t = taken c in omega (arith, t.fits)

pub loop-byte-preserved : goal.loop-byte-preserved
loop-byte-preserved c = let t = taken c in record { digits = t.digits; value = t.is; room = t.room }

pub returns : goal.returns
returns c =
    after-all c.args.start c.loop-byte.value c.loop-byte.byte-index c.args.text.now c.loop-byte-test.false c.loop-byte.invariant.digits c.loop-byte.invariant.value
