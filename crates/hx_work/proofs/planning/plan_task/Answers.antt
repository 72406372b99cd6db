use Rattle.std.proofs.Common.{arith}
use Rattle.hx_work.proofs.Answered.{planned_rows}
use Rattle.hx_work.proofs.planning.plan_task.Goals as goal

pub returns-clause-rows : goal.returns-clause-rows
returns-clause-rows c = λ rows counts. planned_rows c.args.settings.now.lowest c.args.settings.now.highest c.args.settings.now.threshold rows c.args.hist.now c.plan_counts.result (omega (arith, c.requires.fits.highest)) counts c.plan_counts.ensures
