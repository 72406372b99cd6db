use Rattle.std.proofs.Common.{All}
use Rattle.hx_base.specs.Rows.{IsGood}
use Rattle.hx_kd.proofs.tests.good_rows.Given as goal

abbrev pub invariant-loop-row : goal.invariant-loop-row
invariant-loop-row l = All IsGood l.good.items
