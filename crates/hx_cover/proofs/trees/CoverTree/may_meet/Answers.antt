use Rattle.std.proofs.Common.{◌-◌, [], ap, length, get_or, arith}
use Rattle.std.proofs.lemmas.Bool.{ltb-false}
use Rattle.std.proofs.lemmas.List.{get_or_default}
use Rattle.hx_cover.specs.declared.bounds.CoverBox.{CoverBox}
use Rattle.hx_cover.proofs.Searches.{between_ends, none_of_run}
use Rattle.hx_cover.proofs.trees.CoverTree.may_meet.Goals as goal

no_box : CoverBox
no_box = record { pixel = 0; lo = []; hi = [] }

pub returns : goal.returns
unfolding no_box
returns c = λ off.
    let run = c.args.run.now in
    let right = c.args.self.now in
    let n = length run - 1 in
    let first = get_or run 0 no_box in
    let last = get_or run n no_box in
    let some = c.requires.some in
    let between = between_ends run first last some (get_or_default run 0 no_box first some) (get_or_default run n no_box last (omega (arith, some))) c.requires.run.ordered in
    let past = ltb-false _ _ off in
    let len = c.len.ensures in
    let same = ap length c.self.view_is in
    none_of_run c.args.tree.now c.args.margin_order c.args.r2 first.pixel last.pixel c.near_run-near.result.first c.near_run-near.result.end c.next_within.result c.round-all.result run right
    c.round-all.ensures.round between c.near_run-near.ensures c.next_within.ensures.passed (omega (arith, past, len, same))
