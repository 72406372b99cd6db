use Rattle.std.proofs.Common.{arith, length, ◌<◌, ◌≡◌}
use Rattle.std.proofs.lemmas.Bool.Decides.{nat_tests}
use Rattle.std.proofs.lemmas.Result.{err_from_is_err_and}
use Rattle.hx_catalog.proofs.Stages.{broken1, broken2, broken3, broken4, broken5, broken6, broken7, broken8, broken9, broken-name, end-broken, of-parts, stage1, stage2, stage3, stage4, stage5, stage6, stage7, stage8, stage9, whole-read}
use Rattle.hx_catalog.proofs.properties.properties_of.Goals as goal

pub returns-in_default-clause-refused : goal.returns-in_default-clause-refused
returns-in_default-clause-refused c = broken1 c.in_default.ensures

pub returns-in_err-value-clause-refused : goal.returns-in_err-value-clause-refused
returns-in_err-value-clause-refused c =
    let exit = err_from_is_err_and c.from_residual.result c.from_residual.ensures.1 in
    rw (exit.1, exit.2, c.in_err-value.ensures.0) (broken2 (stage1 c.in-Some.ensures) c.in_err-value.ensures.1)

pub returns-in_default-2-clause-refused : goal.returns-in_default-2-clause-refused
returns-in_default-2-clause-refused c =
    let name = rw c.in_default-2.is at c.in_ok-name.ensures in
    rw c.damaged.ensures (broken-name c.in_ok-value.value.now c.in_ok-value.after.now (stage1 c.in-Some.ensures) c.in_ok-value.ensures name)

pub returns-in_err-margin-clause-refused : goal.returns-in_err-margin-clause-refused
returns-in_err-margin-clause-refused c =
    let exit = err_from_is_err_and c.from_residual-in_err-margin.result c.from_residual-in_err-margin.ensures.1 in
    let stage = stage2 (stage1 c.in-Some.ensures) (rw c.in-Some-2.is at c.in_ok-name.ensures) c.in_ok-value.ensures in
    rw (exit.1, exit.2, c.in_err-margin.ensures.0) (broken3 stage c.in_err-margin.ensures.1)

pub returns-in_err-rows-clause-refused : goal.returns-in_err-rows-clause-refused
returns-in_err-rows-clause-refused c =
    let exit = err_from_is_err_and c.from_residual-in_err-rows.result c.from_residual-in_err-rows.ensures.1 in
    let stage = stage3 (stage2 (stage1 c.in-Some.ensures) (rw c.in-Some-2.is at c.in_ok-name.ensures) c.in_ok-value.ensures) c.in_ok-margin.ensures in
    rw (exit.1, exit.2, c.in_err-rows.ensures.0) (broken4 stage c.in_err-rows.ensures.1)

pub returns-in_err-lowest-clause-refused : goal.returns-in_err-lowest-clause-refused
returns-in_err-lowest-clause-refused c =
    let exit = err_from_is_err_and c.from_residual-in_err-lowest.result c.from_residual-in_err-lowest.ensures.1 in
    let stage = stage4 (stage3 (stage2 (stage1 c.in-Some.ensures) (rw c.in-Some-2.is at c.in_ok-name.ensures) c.in_ok-value.ensures) c.in_ok-margin.ensures) c.in_ok-rows.ensures in
    rw (exit.1, exit.2, c.in_err-lowest.ensures.0) (broken5 stage c.in_err-lowest.ensures.1)

pub returns-in_err-highest-clause-refused : goal.returns-in_err-highest-clause-refused
returns-in_err-highest-clause-refused c =
    let exit = err_from_is_err_and c.from_residual-in_err-highest.result c.from_residual-in_err-highest.ensures.1 in
    let stage = stage5 (stage4 (stage3 (stage2 (stage1 c.in-Some.ensures) (rw c.in-Some-2.is at c.in_ok-name.ensures) c.in_ok-value.ensures) c.in_ok-margin.ensures) c.in_ok-rows.ensures) c.in_ok-lowest.ensures in
    rw (exit.1, exit.2, c.in_err-highest.ensures.0) (broken6 stage c.in_err-highest.ensures.1)

pub returns-in_err-threshold-clause-refused : goal.returns-in_err-threshold-clause-refused
returns-in_err-threshold-clause-refused c =
    let exit = err_from_is_err_and c.from_residual-in_err-threshold.result c.from_residual-in_err-threshold.ensures.1 in
    let stage = stage6 (stage5 (stage4 (stage3 (stage2 (stage1 c.in-Some.ensures) (rw c.in-Some-2.is at c.in_ok-name.ensures) c.in_ok-value.ensures) c.in_ok-margin.ensures) c.in_ok-rows.ensures) c.in_ok-lowest.ensures) c.in_ok-highest.ensures in
    rw (exit.1, exit.2, c.in_err-threshold.ensures.0) (broken7 stage c.in_err-threshold.ensures.1)

pub returns-in_err-margin_order-clause-refused : goal.returns-in_err-margin_order-clause-refused
returns-in_err-margin_order-clause-refused c =
    let exit = err_from_is_err_and c.from_residual-in_err-margin_order.result c.from_residual-in_err-margin_order.ensures.1 in
    let stage = stage7 (stage6 (stage5 (stage4 (stage3 (stage2 (stage1 c.in-Some.ensures) (rw c.in-Some-2.is at c.in_ok-name.ensures) c.in_ok-value.ensures) c.in_ok-margin.ensures) c.in_ok-rows.ensures) c.in_ok-lowest.ensures) c.in_ok-highest.ensures) c.in_ok-threshold.ensures in
    rw (exit.1, exit.2, c.in_err-margin_order.ensures.0) (broken8 stage c.in_err-margin_order.ensures.1)

pub returns-in_err-partitions-clause-refused : goal.returns-in_err-partitions-clause-refused
returns-in_err-partitions-clause-refused c =
    let exit = err_from_is_err_and c.from_residual-in_err-partitions.result c.from_residual-in_err-partitions.ensures.1 in
    let stage = stage8 (stage7 (stage6 (stage5 (stage4 (stage3 (stage2 (stage1 c.in-Some.ensures) (rw c.in-Some-2.is at c.in_ok-name.ensures) c.in_ok-value.ensures) c.in_ok-margin.ensures) c.in_ok-rows.ensures) c.in_ok-lowest.ensures) c.in_ok-highest.ensures) c.in_ok-threshold.ensures) c.in_ok-margin_order.ensures in
    rw (exit.1, exit.2, c.in_err-partitions.ensures.0) (broken9 stage c.in_err-partitions.ensures.1)

pub returns-then-not-is_empty-clause-refused : goal.returns-then-not-is_empty-clause-refused
returns-then-not-is_empty-clause-refused c =
    let stage = stage9 (stage8 (stage7 (stage6 (stage5 (stage4 (stage3 (stage2 (stage1 c.in-Some.ensures) (rw c.in-Some-2.is at c.in_ok-name.ensures) c.in_ok-value.ensures) c.in_ok-margin.ensures) c.in_ok-rows.ensures) c.in_ok-lowest.ensures) c.in_ok-highest.ensures) c.in_ok-threshold.ensures) c.in_ok-margin_order.ensures) c.in_ok-partitions.ensures in
    let some : 0 < length c.in_ok-partitions.end.now = grind (arith, nat_tests) in
    rw c.damaged-then-not-is_empty.ensures (end-broken (of-parts c.in-Some-2.name c.in_ok-margin.margin c.in_ok-rows.rows c.in_ok-lowest.lowest c.in_ok-highest.highest c.in_ok-threshold.threshold c.in_ok-margin_order.margin_order c.in_ok-partitions.partitions) c.args.bytes.now c.in_ok-partitions.end.now stage some)

pub returns-clause-read : goal.returns-clause-read
returns-clause-read c =
    let stage = stage9 (stage8 (stage7 (stage6 (stage5 (stage4 (stage3 (stage2 (stage1 c.in-Some.ensures) (rw c.in-Some-2.is at c.in_ok-name.ensures) c.in_ok-value.ensures) c.in_ok-margin.ensures) c.in_ok-rows.ensures) c.in_ok-lowest.ensures) c.in_ok-highest.ensures) c.in_ok-threshold.ensures) c.in_ok-margin_order.ensures) c.in_ok-partitions.ensures in
    let none : length c.in_ok-partitions.end.now ≡ 0 = grind (arith, nat_tests) in
    whole-read (of-parts c.in-Some-2.name c.in_ok-margin.margin c.in_ok-rows.rows c.in_ok-lowest.lowest c.in_ok-highest.highest c.in_ok-threshold.threshold c.in_ok-margin_order.margin_order c.in_ok-partitions.partitions) c.args.bytes.now c.in_ok-partitions.end.now stage none
