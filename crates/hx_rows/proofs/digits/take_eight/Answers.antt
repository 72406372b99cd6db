use Rattle.std.proofs.Common.{arith}
use Rattle.hx_rows.proofs.Spelling.{Takes, takes}
use Rattle.hx_rows.proofs.digits.take_eight.Goals as goal

-- what the step takes
taken : (c : goal.In-Some-eight_digits) → Takes c.args.value c.in-Some-eight_digits.number 100000000 c.args.text.now c.in-Some.rest.now
taken c =
    let chunk = c.in-Some.ensures.cases in
    takes c.args.value c.in-Some-eight_digits.number 8 c.args.text.now c.in-Some.front.now c.in-Some.rest.now chunk.0 chunk.1 chunk.2 c.requires.short c.requires.room
    c.in-Some-eight_digits.ensures

pub overflow_mul-result : goal.overflow_mul-result
overflow_mul-result c = let t = taken c in omega (arith, t.fits)

pub overflow_add-result : goal.overflow_add-result
overflow_add-result c = let t = taken c in omega (arith, t.fits)

pub returns-clause-same : goal.returns-clause-same
returns-clause-same c = (taken c).same

pub returns-clause-room : goal.returns-clause-room
returns-clause-room c = (taken c).room
