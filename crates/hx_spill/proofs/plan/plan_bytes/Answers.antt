use Rattle.std.proofs.Common.{◌≡◌, rules}
use Rattle.hx_spill.specs.Plans.{bytes_of_plan}
use Rattle.hx_spill.proofs.PlanRows.{plan_there}
use Rattle.hx_spill.proofs.plan.plan_bytes.Goals as goal

pub returns-clause-reads_back : goal.returns-clause-reads_back
returns-clause-reads_back c =
    let is : c.push_rows.new.bytes.items ≡ bytes_of_plan c.args.plan.now = search rules in
    let plan = c.rows-rows.ensures.plan in
    let parts = (c.ranges_of_pixels.ensures.ascending _).0 plan.disjoint in
    rw is (plan_there c.args.plan.now parts.0 plan.each parts.1 plan.most)
