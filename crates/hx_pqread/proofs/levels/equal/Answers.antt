use Rattle.std.proofs.Common.{sym, arith}
use Rattle.hx_pqread.proofs.Saying.{told_ones, told_zeros}
use Rattle.hx_pqread.proofs.levels.equal.Goals as goal

pub returns-then-level-eq1-clause-value : goal.returns-then-level-eq1-clause-value
returns-then-level-eq1-clause-value c = sym (told_ones c.args.level c.args.count c.if-level-eq1.true)

pub returns-else-count-eq0-clause-value : goal.returns-else-count-eq0-clause-value
returns-else-count-eq0-clause-value c = sym (told_zeros c.args.level c.args.count (omega arith) (omega arith))
