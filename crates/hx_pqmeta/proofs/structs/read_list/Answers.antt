use Rattle.std.proofs.Common.{◌≡◌, ◌⊎◌, suc, inr, ◌∙◌, refl, arith}
use Rattle.std.proofs.lemmas.Result.{err_from_is_err_and}
use Rattle.hx_thrift.specs.Values.{elements}
use Rattle.hx_thrift.specs.Reading.{value_at, elements_at}
use Rattle.hx_pqmeta.proofs.Walked.{refused_part, placed_refusal}
use Rattle.hx_pqmeta.proofs.Lists.{count, no_header, structs_behind, are_structs, no_structs}
use Rattle.hx_pqmeta.proofs.structs.read_list.Goals as goal

pub returns-in_err-head : goal.returns-in_err-head
returns-in_err-head g c =
    let p = err_from_is_err_and c.from_residual.result c.from_residual.ensures.1 in
    let levels = g.T.Struct.levels in
    let header = rw c.fork-ahead.ensures at c.in_err-head.ensures.value.0 in
    rw (p.1, p.2) (inr (placed_refusal (value_at (suc (suc levels)) 9 c.args.reader.now) c.in_err-head.field-0.0 (no_header (suc levels) c.args.reader.now c.in_err-head.field-0.0 header)))

pub returns-in_err-read_structs : goal.returns-in_err-read_structs
returns-in_err-read_structs g c =
    let p = err_from_is_err_and c.from_residual-in_err-read_structs.result c.from_residual-in_err-read_structs.ensures.1 in
    let levels = g.T.Struct.levels in
    let header = rw c.fork-ahead.ensures at c.in_ok-head.ensures.value in
    let head = c.in_ok-head.head in
    let behind = structs_behind (suc levels) c.args.reader.now c.list.new.self head header (c.may_hold_structs.ensures.0 c.if-may_hold_structs.true) in
    rw (p.1, p.2) (refused_part (Unit {0}) c.in_err-read_structs.field-0.0 (elements_at (value_at (suc levels) 12) head.size c.list.new.self) (value_at (suc (suc levels)) 9 c.args.reader.now) c.in_err-read_structs.ensures
    (λ first is. behind ∙ rw is refl))

pub returns-then-may_hold_structs : goal.returns-then-may_hold_structs
returns-then-may_hold_structs g c =
    let levels = g.T.Struct.levels in
    let header = rw c.fork-ahead.ensures at c.in_ok-head.ensures.value in
    let head = c.in_ok-head.head in
    let may = c.may_hold_structs.ensures.0 c.if-may_hold_structs.true in
    let found = c.in_ok-read_structs.ensures in
    let all = count (value_at (suc levels) 12) head.size c.list.new.self c.read_structs.new.reader found.0 found.1 in (
      elements head.kind found.0,
      structs_behind (suc levels) c.args.reader.now c.list.new.self head header may ∙ rw found.1 refl,
      rw (are_structs head.kind head.size found.0 may all, found.2) refl,
    )

pub returns : goal.returns
returns g c =
    let levels = g.T.Struct.levels in
    let header = rw c.fork-ahead.ensures at c.in_ok-head.ensures.value in
    let passed = c.in_ok-pass.ensures (suc (suc levels)) (omega (arith, c.requires)) in
    let may_not : (c.in_ok-head.head.kind ≡ 12) ⊎ (c.in_ok-head.head.size ≡ 0) → ⊥ = λ may. (let yes = rw c.if-may_hold_structs.false at c.may_hold_structs.ensures.1 may in absurd cc) in
    (passed.0, passed.1, rw (no_structs levels c.args.reader.now c.list.new.self c.pass.new.reader c.in_ok-head.head passed.0 header may_not passed.1) refl)
