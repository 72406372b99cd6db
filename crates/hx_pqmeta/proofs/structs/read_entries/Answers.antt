use Rattle.std.proofs.Common.{rules, ◌+◌, ◌-◌, ◌++◌, ◌∷◌, [], inr, sym, ◌∙◌, arith}
use Rattle.std.proofs.lemmas.Result.{err_from_is_err_and}
use Rattle.std.proofs.Math.Nat.{sub-zero}
use Rattle.std.specs.Int.{w16, cast_signed, cast_unsigned}
use Rattle.std.specs.Int.RustNames.{FitsSigned}
use Rattle.std.proofs.lemmas.Int.{to_z-of_z}
use Rattle.hx_thrift.specs.declared.refusal.ThriftRefusal.TheVariants.{Short}
use Rattle.hx_thrift.specs.Reading.{value_at, struct_at}
use Rattle.hx_pqmeta.proofs.Walked.{next_entry, refused_value, refused_header, refused_part, placed_refusal, at_stop, at_end, no_entries}
use Rattle.hx_pqmeta.proofs.structs.read_entries.Goals as goal

pub loop-init : goal.loop-init
loop-init g c = ([], c.requires.none, rw (sub-zero, c.remaining-end.ensures) (no_entries (value_at g.T.Struct.levels) c.args.reader.now))

pub returns-in_err-field : goal.returns-in_err-field
returns-in_err-field g c =
    let p = err_from_is_err_and c.from_residual.result c.from_residual.ensures.1 in
    let whole = struct_at (value_at g.T.Struct.levels) c.args.reader.now in
    rw (p.1, p.2) (inr (placed_refusal whole c.in_err-field.field-0.0 (sym c.loop.invariant.2 ∙ refused_header (value_at g.T.Struct.levels) (c.remaining-end.result - c.loop.counter) (cast_signed w16 c.loop.last-bits) c.loop.reader c.in_err-field.field-0.0 c.loop.invariant.0 c.in_err-field.ensures.value.0 (omega arith))))

pub returns-in-None : goal.returns-in-None
returns-in-None g c =
    let stop = rw c.in-None.is at c.in_ok-field.ensures.value in
    (c.loop.invariant.0, sym c.loop.invariant.2 ∙ at_stop (value_at g.T.Struct.levels) (c.remaining-end.result - c.loop.counter) (cast_signed w16 c.loop.last-bits) c.loop.reader c.field.new.self c.loop.invariant.0 stop (omega arith), c.loop.invariant.1)

pub returns-in_err-read_entry-in-Some : goal.returns-in_err-read_entry-in-Some
returns-in_err-read_entry-in-Some g c =
    let p = err_from_is_err_and c.from_residual-in_err-read_entry-in-Some.result c.from_residual-in_err-read_entry-in-Some.ensures.1 in
    let header = rw c.in-Some.is at c.in_ok-field.ensures.value in
    let read = value_at g.T.Struct.levels in
    let whole = struct_at read c.args.reader.now in
    rw (p.1, p.2) (refused_part g.T.Struct.wants c.in_err-read_entry-in-Some.field-0.0 (read c.in-Some.field.kind c.field.new.self) whole c.in_err-read_entry-in-Some.ensures
    (λ first is. sym c.loop.invariant.2 ∙ refused_value read (c.remaining-end.result - c.loop.counter) (cast_signed w16 c.loop.last-bits) c.loop.reader c.field.new.self c.in-Some.field first c.loop.invariant.0 header (omega arith) is))

pub loop-preserved : goal.loop-preserved
loop-preserved g c =
    let header = rw c.in-Some.is at c.in_ok-field.ensures.value in
    let fits : FitsSigned w16 c.in-Some.field.id = search rules in
    let kept = c.in_ok-read_entry-in-Some.ensures in (
      c.loop.invariant.0 ++ record { id = c.in-Some.field.id; kind = c.in-Some.field.kind; value = kept.0 } ∷ [],
      kept.2 c.loop.invariant.0 c.loop.invariant.1,
      sym (next_entry (value_at g.T.Struct.levels) (c.remaining-end.result - c.loop.counter) (c.remaining-end.result - (c.loop.counter + 1)) (cast_signed w16 c.loop.last-bits) (cast_signed w16 (cast_unsigned w16 c.in-Some.field.id)) c.loop.reader c.field.new.self c.read_entry.new.reader c.in-Some.field kept.0 c.loop.invariant.0 (to_z-of_z w16 c.in-Some.field.id fits) header kept.1 (omega arith)) ∙ c.loop.invariant.2,
    )

pub returns : goal.returns
returns g c =
    let whole = struct_at (value_at g.T.Struct.levels) c.args.reader.now in
    rw c.place.ensures (inr (placed_refusal whole (Short c.loop.reader.at) (sym c.loop.invariant.2 ∙ at_end (value_at g.T.Struct.levels) (c.remaining-end.result - c.loop.counter) (cast_signed w16 c.loop.last-bits) c.loop.reader c.loop.invariant.0 (omega arith))))
