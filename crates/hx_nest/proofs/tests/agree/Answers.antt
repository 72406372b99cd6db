use Rattle.std.proofs.Common.{arith}
use Rattle.std.proofs.lemmas.Nat.{one_shl}
use Rattle.std.proofs.Math.Nat.{pow-le-pow_right}
use Rattle.hx_nest.proofs.tests.agree.Goals as goal

pub plainly_touch-plain-requires-clause-n : goal.plainly_touch-plain-requires-clause-n
plainly_touch-plain-requires-clause-n c = omega (arith, one_shl c.args.k 64 (omega arith), pow-le-pow_right {n = 2} (omega arith) {i = c.args.k} {j = 29} c.requires.order)
