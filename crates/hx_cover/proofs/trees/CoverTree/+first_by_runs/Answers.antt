use Rattle.std.proofs.Common.{◌+◌, ◌-◌, drop, refl, take, arith}
use Rattle.hx_cover.proofs.Searches.{run_found, run_none}
use Rattle.hx_cover.proofs.NearPixels.{first_none, whole_none}
use Rattle.hx_cover.proofs.trees.CoverTree.+first_by_runs.Goals as goal

pub returns-in-Some : goal.returns-in-Some
returns-in-Some t c =
    let at = c.loop-at.at in
    let end = at + c.min.result in
    run_found c.args.tree.now c.args.margin_order c.args.r2 at end c.args.left.now c.args.self.now (take (end - at) (drop at c.args.left.now)) c.loop-at.invariant refl (omega arith) c.in-Some.found c.requires.left.ordered c.in-Some.ensures

pub loop-at-preserved-in_default : goal.loop-at-preserved-in_default
loop-at-preserved-in_default t c =
    let at = c.loop-at.at in
    let end = at + c.min.result in
    let run = take (end - at) (drop at c.args.left.now) in
    run_none c.args.tree.now c.args.margin_order c.args.r2 at end c.args.left.now c.args.self.now run c.loop-at.invariant refl (omega arith)
    (first_none c.args.tree.now c.args.margin_order c.args.r2 run c.args.self.now c.first_by_runs.result c.first_by_runs.ensures c.in_default.not-Some)

pub loop-at-preserved : goal.loop-at-preserved
loop-at-preserved t c =
    let at = c.loop-at.at in
    let end = at + c.min.result in
    let run = take (end - at) (drop at c.args.left.now) in
    run_none c.args.tree.now c.args.margin_order c.args.r2 at end c.args.left.now c.args.self.now run c.loop-at.invariant refl (omega arith) (c.may_meet.ensures c.if-may_meet.false)

pub returns : goal.returns
returns t c = whole_none c.args.tree.now c.args.margin_order c.args.r2 c.loop-at.at c.args.left.now c.args.self.now c.loop-at.invariant c.loop-at-test.false
