use Rattle.std.proofs.Common.{arith}
use Rattle.std.proofs.lemmas.Nat.{one_shl, pow_pos}
use Rattle.std.proofs.Math.Nat.{pow-le-pow_right}
use Rattle.hx_nest.proofs.touching.last_of.Goals as goal

pub returns-clause-value : goal.returns-clause-value
returns-clause-value c = omega (arith, one_shl c.args.k 32 (omega arith), pow_pos c.args.k)

pub returns-clause-range : goal.returns-clause-range
returns-clause-range c = omega (arith, one_shl c.args.k 32 (omega arith), pow_pos c.args.k, pow-le-pow_right {n = 2} (omega arith) {i = c.args.k} {j = 29} c.requires)
