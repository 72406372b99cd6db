use Rattle.std.proofs.Common.{◌∙◌, ◌+◌, ◌-◌, sym, ap, take, drop, get_or, arith}
use Rattle.std.proofs.lemmas.List.{at_drop_more}
use Rattle.std.specs.List.{flat_map}
use Rattle.hx_pqread.specs.Runs.{group_levels}
use Rattle.hx_pqread.specs.Levels.{told_of, joined}
use Rattle.hx_pqread.proofs.Saying.{next_group}
use Rattle.hx_pqread.proofs.levels.of_groups.Goals as goal

pub loop-group-preserved : goal.loop-group-preserved
loop-group-preserved c =
    let before = c.loop-group.told in
    let wanted = c.args.wanted - before.count in
    let n = c.least.result in
    let group = get_or c.args.groups.now c.loop-group.group-index 0 in
    let groups = drop (c.loop-group.group-index + 1) c.args.groups.now in
    let first = at_drop_more (λ groups. joined before (told_of (take wanted (flat_map group_levels groups)))) c.args.groups.now c.loop-group.group-index 0 (omega arith) in
    let next = next_group before c.joined-told.result wanted n (c.args.wanted - c.joined-told.result.count) group groups c.least.ensures (omega arith) (c.joined-told.ensures.value ∙ ap (joined before) c.of_group.ensures.value) in
    record { within = c.joined-told.ensures.within; few = omega arith; so_far = sym next ∙ (sym first ∙ c.loop-group.invariant.so_far) }
