use Rattle.std.proofs.Common.{◌+◌, ◌-◌, ◌++◌, ◌∷◌, [], suc, refl, sym, ◌∙◌, arith}
use Rattle.std.proofs.lemmas.Result.{err_from_is_err_and}
use Rattle.std.proofs.Math.Nat.{sub-zero}
use Rattle.hx_thrift.specs.Reading.{value_at, elements_at}
use Rattle.hx_pqmeta.proofs.Walked.{from_first, next_element, refused_element, refused_part, wanting, no_more, one_more}
use Rattle.hx_pqmeta.proofs.structs.read_structs.Goals as goal

pub loop-init : goal.loop-init
loop-init g c = ([], rw c.new-found.ensures.items refl, rw sub-zero (from_first (elements_at (value_at (suc g.T.Struct.levels) 12) c.args.size c.args.reader.now)))

pub returns-in_err-fields : goal.returns-in_err-fields
returns-in_err-fields g c =
    let p = err_from_is_err_and c.from_residual.result c.from_residual.ensures.1 in
    let read = value_at (suc g.T.Struct.levels) 12 in
    let whole = elements_at read c.args.size c.args.reader.now in
    rw (p.1, p.2) (wanting g.T.Struct.wants c.in_err-fields.field-0.0 whole (refused_part g.T.Struct.wants c.in_err-fields.field-0.0 (read c.loop.reader) whole c.in_err-fields.ensures
    (λ first is. sym c.loop.invariant.2 ∙ refused_element read (c.args.size - c.loop.counter) c.loop.reader first c.loop.invariant.0 (omega arith) is)))

pub loop-preserved : goal.loop-preserved
loop-preserved g c =
    let read = value_at (suc g.T.Struct.levels) 12 in
    let one = c.in_ok-fields.ensures in (
      c.loop.invariant.0 ++ one.0 ∷ [],
      rw (c.in_ok-push.ensures.items, one.2.1) (one_more g.T.Struct.said c.loop.found.items c.loop.invariant.0 c.in_ok-fields.fields one.2.0 c.loop.invariant.1 one.2.2),
      sym (next_element read (c.args.size - c.loop.counter) (c.args.size - (c.loop.counter + 1)) c.loop.reader c.read_struct.new.reader one.0 c.loop.invariant.0 one.1 (omega arith)) ∙ c.loop.invariant.2,
    )

pub returns : goal.returns
returns g c =
    (c.loop.invariant.0, sym c.loop.invariant.2 ∙ no_more (value_at (suc g.T.Struct.levels) 12) (c.args.size - c.loop.counter) c.loop.reader c.loop.invariant.0 (omega arith), c.loop.invariant.1)
