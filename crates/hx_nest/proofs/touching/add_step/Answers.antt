use Rattle.hx_nest.proofs.Touches.{step_added}
use Rattle.hx_nest.proofs.touching.add_step.Goals as goal

pub returns-in-Some : goal.returns-in-Some
returns-in-Some c = step_added c.args.k c.join_xy.result c.in-Some.next _ c.args.around.now c.insert.new.self c.in-Some.ensures c.join_xy.ensures.spot c.insert.ensures
