use Rattle.std.proofs.Common.{All}
use Rattle.hx_base.specs.Rows.{IsGood}
use Rattle.hx_hist.proofs.samples.rows_at.Given as goal

abbrev pub invariant-loop-position : goal.invariant-loop-position
invariant-loop-position l = All IsGood l.rows.items
