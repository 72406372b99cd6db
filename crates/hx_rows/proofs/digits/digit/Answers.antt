use Rattle.std.proofs.Common.{arith}
use Rattle.hx_rows.proofs.Spelling.{digit-above_nine, digit-at_most_nine}
use Rattle.hx_rows.proofs.digits.digit.Goals as goal

pub returns-then-value-gt9 : goal.returns-then-value-gt9
returns-then-value-gt9 c = digit-above_nine c.args.byte (omega arith) (rw c.from-value.ensures at c.if-value-gt9.true)

pub returns-else-value-gt9 : goal.returns-else-value-gt9
returns-else-value-gt9 c = rw c.from-value.ensures (digit-at_most_nine c.args.byte (omega arith) (rw c.from-value.ensures at c.if-value-gt9.false))
