use Rattle.std.proofs.Common.{rules, ap, arith}
use Rattle.std.proofs.lemmas.Result.{err_from_is_err_and}
use Rattle.hx_thrift.specs.Texts.{Text}
use Rattle.hx_thrift.proofs.Groups.{refused, ended, goes_on, last_fits, last_great, sum_fits, next_below, weight_fits, next_weight}
use Rattle.hx_thrift.proofs.reader.Reader.peek_varint.Goals as goal

pub returns-in_err-group : goal.returns-in_err-group
returns-in_err-group c =
    let place = ap (λ (text : Text). text.at) c.self.view_is in
    let given = err_from_is_err_and c.from_residual.result c.from_residual.ensures.1 in
    rw (given.1, given.2) (refused c.loop.counter c.loop.number c.loop.scale c.self.inside.at c.args.self.now c.loop.ahead c.in_err-group.field-0.0 place (omega arith) c.in_err-group.ensures c.loop.invariant.so_far)

pub overflow_mul-number : goal.overflow_mul-number
overflow_mul-number c =
    let fits = sum_fits c.loop.counter c.loop.number c.in_ok-group.group c.loop.scale c.loop-test.true c.loop.invariant.weight c.loop.invariant.below in
    search rules

pub overflow_add-number : goal.overflow_add-number
overflow_add-number c =
    let fits = sum_fits c.loop.counter c.loop.number c.in_ok-group.group c.loop.scale c.loop-test.true c.loop.invariant.weight c.loop.invariant.below in
    search rules

pub returns-then-group-lt128 : goal.returns-then-group-lt128
returns-then-group-lt128 c =
    let place = ap (λ (text : Text). text.at) c.self.view_is in
    ended c.loop.counter c.loop.number c.loop.scale c.self.inside.at c.in_ok-group.group c.args.self.now c.loop.ahead c.in_ok-group.rest place c.loop-test.true c.loop.invariant.weight c.loop.invariant.below c.in_ok-group.ensures c.if-group-lt128.true c.loop.invariant.so_far

pub overflow_mul-scale : goal.overflow_mul-scale
overflow_mul-scale c =
    let fits = weight_fits c.loop.counter c.loop.scale c.loop-test.true c.loop.invariant.weight in
    search rules

pub loop-preserved : goal.loop-preserved
loop-preserved c =
    let place = ap (λ (text : Text). text.at) c.self.view_is in
    record {
      weight = next_weight c.loop.counter c.loop.scale c.loop.invariant.weight;
      below = next_below c.loop.number c.in_ok-group.group c.loop.scale c.loop.invariant.below;
      so_far = goes_on c.loop.counter c.loop.number c.loop.scale c.self.inside.at c.in_ok-group.group c.args.self.now c.loop.ahead c.in_ok-group.rest place c.loop-test.true c.in_ok-group.ensures c.if-group-lt128.false c.loop.invariant.so_far;
    }

pub returns-in_err-group-2 : goal.returns-in_err-group-2
returns-in_err-group-2 c =
    let place = ap (λ (text : Text). text.at) c.self.view_is in
    let given = err_from_is_err_and c.from_residual-in_err-group-2.result c.from_residual-in_err-group-2.ensures.1 in
    rw (given.1, given.2) (refused c.loop.counter c.loop.number c.loop.scale c.self.inside.at c.args.self.now c.loop.ahead c.in_err-group-2.field-0.0 place (omega arith) c.in_err-group-2.ensures c.loop.invariant.so_far)

pub returns-then-group-le-LAST_GROUP : goal.returns-then-group-le-LAST_GROUP
returns-then-group-le-LAST_GROUP c =
    let place = ap (λ (text : Text). text.at) c.self.view_is in
    last_fits c.loop.counter c.loop.number c.loop.scale c.self.inside.at c.in_ok-group-2.group c.args.self.now c.loop.ahead c.in_ok-group-2.rest place (omega arith) c.loop.invariant.weight c.loop.invariant.below c.in_ok-group-2.ensures c.if-group-le-LAST_GROUP.true c.loop.invariant.so_far

pub returns-else-group-le-LAST_GROUP : goal.returns-else-group-le-LAST_GROUP
returns-else-group-le-LAST_GROUP c =
    let place = ap (λ (text : Text). text.at) c.self.view_is in
    last_great c.loop.counter c.loop.number c.loop.scale c.self.inside.at c.in_ok-group-2.group c.args.self.now c.loop.ahead c.in_ok-group-2.rest place (omega arith) c.loop.invariant.weight c.in_ok-group-2.ensures c.if-group-le-LAST_GROUP.false c.loop.invariant.so_far
