use Rattle.hx_nest.proofs.Touches.{members_touch, touching_are_members}
use Rattle.hx_nest.proofs.touching.neighbours.Goals as goal

pub returns-clause-touching : goal.returns-clause-touching
returns-clause-touching c =
    let at = c.split-at.result in
    let k = c.args.k in
    let p = c.args.p in
    let last = c.last_of-last.result in
    let bx = c.before-x_before in
    let ax = c.after-x_after in
    let by = c.before-y_before in
    let ay = c.after-y_after in
    λ q. (
      members_touch k p at.face at.x at.y last c.split-at.ensures c.last_of-last.ensures.value bx.result ax.result by.result ay.result bx.ensures.value ax.ensures.value by.ensures.value ay.ensures.value
          c.new-around.result c.add_step.new.around c.add_step-2.new.around c.add_step-3.new.around c.add_step-4.new.around c.add_step-5.new.around c.add_step-6.new.around c.add_step-7.new.around c.add_step-8.new.around
          c.new-around.ensures c.add_step.ensures c.add_step-2.ensures c.add_step-3.ensures c.add_step-4.ensures c.add_step-5.ensures c.add_step-6.ensures c.add_step-7.ensures c.add_step-8.ensures q,
      touching_are_members k p at.face at.x at.y last c.split-at.ensures c.last_of-last.ensures.value bx.result ax.result by.result ay.result bx.ensures.value ax.ensures.value by.ensures.value ay.ensures.value
          c.new-around.result c.add_step.new.around c.add_step-2.new.around c.add_step-3.new.around c.add_step-4.new.around c.add_step-5.new.around c.add_step-6.new.around c.add_step-7.new.around c.add_step-8.new.around
          c.new-around.ensures c.add_step.ensures c.add_step-2.ensures c.add_step-3.ensures c.add_step-4.ensures c.add_step-5.ensures c.add_step-6.ensures c.add_step-7.ensures c.add_step-8.ensures q,
    )
