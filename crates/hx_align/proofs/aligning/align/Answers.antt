use Rattle.std.proofs.Common.{◌≡◌, ℕ, arith, length, subst}
use Rattle.hx_base.specs.Partitions.{NothingOverfull}
use Rattle.hx_hist.proofs.Totals.{totals_grow}
use Rattle.hx_align.specs.Plans.{HasPartitions, IsPlanOf, totals_of}
use Rattle.hx_align.proofs.Whole.{has_partitions, is_plan}
use Rattle.hx_align.proofs.aligning.align.Goals as goal

pub returns-then-len-gt-MOST_PARTITIONS : goal.returns-then-len-gt-MOST_PARTITIONS
returns-then-len-gt-MOST_PARTITIONS c =
    let hist = c.args.hist.now in
    let none = subst (λ (h : ℕ). NothingOverfull (totals_of hist) h c.args.threshold) c.requires.order c.in_default.ensures.none in
    let has = has_partitions (totals_of hist) c.args.lowest hist.order c.args.threshold c.in_ok-rows.rows.items c.in_ok-rows.ensures in
    let found : length c.in_ok-rows.rows.items ≡ c.len-then-len-gt-MOST_PARTITIONS.result = omega arith in
    let counted = subst (HasPartitions (totals_of hist) c.args.lowest hist.order c.args.threshold) found has in
    (none, subst (λ (h : ℕ). HasPartitions (totals_of hist) c.args.lowest h c.args.threshold c.len-then-len-gt-MOST_PARTITIONS.result) c.requires.order counted, omega arith)

pub new-requires : goal.new-requires
new-requires c =
    let hist = c.args.hist.now in
    is_plan (totals_of hist) c.args.lowest hist.order c.args.threshold c.in_ok-rows.rows.items (totals_grow hist.order hist.pairs) (omega arith) (omega (arith, c.requires.order, c.requires.highest)) c.requires.threshold_most c.in_ok-rows.ensures

pub returns : goal.returns
returns c =
    let hist = c.args.hist.now in
    let none = subst (λ (h : ℕ). NothingOverfull (totals_of hist) h c.args.threshold) c.requires.order c.in_default.ensures.none in
    let plan = subst (λ (h : ℕ). IsPlanOf (totals_of hist) c.args.lowest h c.args.threshold c.in_ok-rows.rows.items) c.requires.order c.in_ok-rows.ensures in
    rw c.in_ok-new.ensures (none, plan, omega arith)
