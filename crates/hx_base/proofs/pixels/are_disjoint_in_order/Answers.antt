use Rattle.hx_base.proofs.Ranges.{ascend, disjoint_where_ascending}
use Rattle.hx_base.proofs.pixels.are_disjoint_in_order.Goals as goal

pub returns-then-all_exist : goal.returns-then-all_exist
returns-then-all_exist c =
    let pixels = c.args.pixels.now in
    let each = c.all_exist.ensures.0 c.if-all_exist.true in
    (λ h. disjoint_where_ascending pixels each (c.each_ends_first.ensures.0 h), λ h. c.each_ends_first.ensures.1 (ascend pixels h))
