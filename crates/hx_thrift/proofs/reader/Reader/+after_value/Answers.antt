use Rattle.std.proofs.Common.{rules, ◌+◌, ◌-◌, Err, refl, sym, ap, ◌∙◌, arith, length}
use Rattle.std.proofs.lemmas.Result.{err_from_is_err_and}
use Rattle.std.proofs.Math.Nat.{sub-zero}
use Rattle.std.proofs.lemmas.Int.{to_z-of_z}
use Rattle.std.specs.Int.{w16, cast_signed, cast_unsigned}
use Rattle.std.specs.Int.RustNames.{FitsSigned}
use Rattle.hx_thrift.specs.declared.refusal.ThriftRefusal.TheVariants.{Short}
use Rattle.hx_thrift.specs.Texts.{Text, rest_of}
use Rattle.hx_thrift.specs.Reading.{value_at, struct_at, elements_at, pair_at}
use Rattle.hx_thrift.proofs.Passing.{next_element, refused_element, all_elements, behind_list_head, no_list_head, next_entry, refused_value, refused_header, at_stop, no_stop, behind_key, refused_key, of_leaf, too_deep, of_struct, of_map, of_sequence}
use Rattle.hx_thrift.proofs.reader.Reader.+after_value.Goals as goal

pub after_value-returns-then-kind-lt9 : goal.after_value-returns-then-kind-lt9
after_value-returns-then-kind-lt9 t c = rw (of_leaf c.args.levels c.args.kind c.args.self.now c.if-kind-lt9.true) c.after_leaf.ensures

pub after_value-returns-then-levels-eq0 : goal.after_value-returns-then-levels-eq0
after_value-returns-then-levels-eq0 t c =
    let place = ap (λ (text : Text). text.at) c.self.view_is in
    rw place (too_deep c.args.levels c.args.kind c.args.self.now c.if-kind-lt9.false c.if-levels-eq0.true)

pub after_value-returns-in-12 : goal.after_value-returns-in-12
after_value-returns-in-12 t c = rw (of_struct c.args.levels c.args.kind c.args.self.now c.in-12.is c.if-levels-eq0.false) c.after_struct.ensures

pub after_value-returns-in-11 : goal.after_value-returns-in-11
after_value-returns-in-11 t c = rw (of_map c.args.levels c.args.kind c.args.self.now c.in-11.is c.if-levels-eq0.false) c.after_map.ensures

pub after_value-returns-in_default : goal.after_value-returns-in_default
after_value-returns-in_default t c =
    rw (of_sequence c.args.levels c.args.kind c.args.self.now c.if-kind-lt9.false (omega arith) (omega arith) c.if-levels-eq0.false) c.after_sequence.ensures

pub after_elements-returns-in_err-ahead : goal.after_elements-returns-in_err-ahead
after_elements-returns-in_err-ahead t c =
    let given = err_from_is_err_and c.from_residual.result c.from_residual.ensures.1 in
    let read = value_at c.args.levels c.args.kind in
    rw (given.1, given.2) (refused_element read (c.args.size - c.loop.counter) c.loop.ahead c.in_err-ahead.field-0.0 (rest_of (elements_at read c.args.size c.args.self.now)) c.in_err-ahead.ensures (omega arith) c.loop.invariant)

pub after_elements-loop-preserved : goal.after_elements-loop-preserved
after_elements-loop-preserved t c =
    let read = value_at c.args.levels c.args.kind in
    next_element read (c.args.size - c.loop.counter) (c.args.size - (c.loop.counter + 1)) c.loop.ahead c.in_ok-ahead.ahead (rest_of (elements_at read c.args.size c.args.self.now)) c.in_ok-ahead.ensures (omega arith) c.loop.invariant

pub after_elements-returns : goal.after_elements-returns
after_elements-returns t c =
    let read = value_at c.args.levels c.args.kind in
    all_elements read (c.args.size - c.loop.counter) c.loop.ahead (rest_of (elements_at read c.args.size c.args.self.now)) (omega arith) c.loop.invariant

pub after_pairs-returns-in_err-ahead : goal.after_pairs-returns-in_err-ahead
after_pairs-returns-in_err-ahead t c =
    let given = err_from_is_err_and c.from_residual.result c.from_residual.ensures.1 in
    let read = pair_at (value_at c.args.levels) c.args.key c.args.value in
    rw (given.1, given.2) (refused_element read (c.args.size - c.loop.counter) c.loop.ahead c.in_err-ahead.field-0.0 (rest_of (elements_at read c.args.size c.args.self.now)) c.in_err-ahead.ensures (omega arith) c.loop.invariant)

pub after_pairs-loop-preserved : goal.after_pairs-loop-preserved
after_pairs-loop-preserved t c =
    let read = pair_at (value_at c.args.levels) c.args.key c.args.value in
    next_element read (c.args.size - c.loop.counter) (c.args.size - (c.loop.counter + 1)) c.loop.ahead c.in_ok-ahead.ahead (rest_of (elements_at read c.args.size c.args.self.now)) c.in_ok-ahead.ensures (omega arith) c.loop.invariant

pub after_pairs-returns : goal.after_pairs-returns
after_pairs-returns t c =
    let read = pair_at (value_at c.args.levels) c.args.key c.args.value in
    all_elements read (c.args.size - c.loop.counter) c.loop.ahead (rest_of (elements_at read c.args.size c.args.self.now)) (omega arith) c.loop.invariant

pub after_pair-returns-in_err-ahead : goal.after_pair-returns-in_err-ahead
after_pair-returns-in_err-ahead t c =
    let given = err_from_is_err_and c.from_residual.result c.from_residual.ensures.1 in
    let key = rw c.part_kind.ensures at c.in_err-ahead.ensures in
    rw (given.1, given.2) (refused_key (value_at c.args.levels) c.args.key c.args.value c.args.self.now c.in_err-ahead.field-0.0 key)

pub after_pair-returns : goal.after_pair-returns
after_pair-returns t c =
    let key = rw c.part_kind.ensures at c.in_ok-ahead.ensures in
    rw (behind_key (value_at c.args.levels) c.args.key c.args.value c.args.self.now c.in_ok-ahead.ahead key, ← c.part_kind-2.ensures) c.after_value-2.ensures

pub after_sequence-returns-in_err-head : goal.after_sequence-returns-in_err-head
after_sequence-returns-in_err-head t c =
    let given = err_from_is_err_and c.from_residual.result c.from_residual.ensures.1 in
    rw (given.1, given.2) (no_list_head (value_at c.args.levels) c.args.self.now c.in_err-head.field-0.0 (rw c.fork-ahead.ensures at c.in_err-head.ensures.value.0))

pub after_sequence-returns : goal.after_sequence-returns
after_sequence-returns t c =
    let head = rw c.fork-ahead.ensures at c.in_ok-head.ensures.value in
    rw (behind_list_head (value_at c.args.levels) c.args.self.now c.list.new.self c.in_ok-head.head head, ← c.part_kind.ensures) c.after_elements.ensures

pub after_struct-loop-init : goal.after_struct-loop-init
unfolding struct_at
after_struct-loop-init t c =
    let count = ap (λ (text : Text). length text.bytes) c.self.view_is in
    rw (sub-zero, c.fork-ahead.ensures, count) refl

pub after_struct-returns-in_err-field : goal.after_struct-returns-in_err-field
after_struct-returns-in_err-field t c =
    let given = err_from_is_err_and c.from_residual.result c.from_residual.ensures.1 in
    let read = value_at c.args.levels in
    let left = length c.self.inside.ahead.now - c.loop.counter in
    let all = rest_of (struct_at read c.args.self.now) in
    let last = cast_signed w16 c.loop.last-bits in
    rw (given.1, given.2) (refused_header read left last c.loop.ahead c.in_err-field.field-0.0 all c.in_err-field.ensures.value.0 (omega arith) c.loop.invariant)

pub after_struct-returns-in-None : goal.after_struct-returns-in-None
after_struct-returns-in-None t c =
    let read = value_at c.args.levels in
    let left = length c.self.inside.ahead.now - c.loop.counter in
    let all = rest_of (struct_at read c.args.self.now) in
    let header = rw c.in-None.is at c.in_ok-field.ensures.value in
    let last = cast_signed w16 c.loop.last-bits in
    at_stop read left last c.loop.ahead c.field.new.self all header (omega arith) c.loop.invariant

pub after_struct-returns-in_err-ahead-in-Some : goal.after_struct-returns-in_err-ahead-in-Some
after_struct-returns-in_err-ahead-in-Some t c =
    let given = err_from_is_err_and c.from_residual-in_err-ahead-in-Some.result c.from_residual-in_err-ahead-in-Some.ensures.1 in
    let read = value_at c.args.levels in
    let left = length c.self.inside.ahead.now - c.loop.counter in
    let all = rest_of (struct_at read c.args.self.now) in
    let header = rw c.in-Some.is at c.in_ok-field.ensures.value in
    let last = cast_signed w16 c.loop.last-bits in
    rw (given.1, given.2) (refused_value read left last c.loop.ahead c.field.new.self c.in-Some.field c.in_err-ahead-in-Some.field-0.0 all header c.in_err-ahead-in-Some.ensures (omega arith) c.loop.invariant)

pub after_struct-loop-preserved : goal.after_struct-loop-preserved
after_struct-loop-preserved t c =
    let read = value_at c.args.levels in
    let left = length c.self.inside.ahead.now - c.loop.counter in
    let all = rest_of (struct_at read c.args.self.now) in
    let header = rw c.in-Some.is at c.in_ok-field.ensures.value in
    let last = cast_signed w16 c.loop.last-bits in
    let fits : FitsSigned w16 c.in-Some.field.id = search rules in
    let same = to_z-of_z w16 c.in-Some.field.id fits in
    next_entry read left (length c.self.inside.ahead.now - (c.loop.counter + 1)) last (cast_signed w16 (cast_unsigned w16 c.in-Some.field.id)) c.loop.ahead c.field.new.self c.in_ok-ahead-in-Some.ahead c.in-Some.field all header same c.in_ok-ahead-in-Some.ensures (omega arith) c.loop.invariant

pub after_struct-returns : goal.after_struct-returns
after_struct-returns t c =
    let read = value_at c.args.levels in
    let left = length c.self.inside.ahead.now - c.loop.counter in
    no_stop read left (cast_signed w16 c.loop.last-bits) c.loop.ahead (rest_of (struct_at read c.args.self.now)) (omega arith) c.loop.invariant ∙ ap (λ (text : Text). Err (Short text.at)) (sym c.ahead.view_is)
