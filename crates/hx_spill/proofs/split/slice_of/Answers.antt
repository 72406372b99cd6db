use Rattle.std.proofs.Common.{◌∙◌, ℕ, List, sym, ap, subst, Ok}
use Rattle.hx_base.specs.declared.row.Row.{Row}
use Rattle.hx_spill.specs.Items.{Gives, Read, each, ended}
use Rattle.hx_spill.specs.Splits.{row_behind}
use Rattle.hx_spill.proofs.Slices.{known, slice_found, slice_none}
use Rattle.hx_spill.proofs.split.slice_of.Goals as goal

pub returns-in-None-clause-value : goal.returns-in-None-clause-value
returns-in-None-clause-value c =
    let head = c.in_ok-entries in
    let k = known c.args.part c.args.bytes.now head.field-0 c.in_ok-check_slices.field-0 c.in_ok-ended.field-0 head.ensures.value head.ensures.head c.in_ok-check_slices.ensures.value (c.in_ok-ended.ensures ∙ ap (λ (p : ℕ). ended p c.args.bytes.now) c.place_of_row.ensures) in
    rw c.new.ensures.items (k.whole ∙ ap (λ (rows : List Row). Ok rows) (slice_none head.field-0.entries c.args.bytes.now k.entries k.placed c.args.part k.read (k.found ∙ c.in-None.is)))

pub returns-in-Some-clause-value : goal.returns-in-Some-clause-value
returns-in-Some-clause-value c =
    let head = c.in_ok-entries in
    let entry = c.in-Some.entry in
    let k = known c.args.part c.args.bytes.now head.field-0 c.in_ok-check_slices.field-0 c.in_ok-ended.field-0 head.ensures.value head.ensures.head c.in_ok-check_slices.ensures.value (c.in_ok-ended.ensures ∙ ap (λ (p : ℕ). ended p c.args.bytes.now) c.place_of_row.ensures) in
    let rows = slice_found head.field-0.entries c.args.bytes.now k.entries k.placed c.args.part entry k.read k.apart (k.found ∙ c.in-Some.is) in
    let here = ap (λ (start : ℕ). each entry.rows (row_behind start c.args.bytes.now)) c.place_of_row-start.ensures in
    subst (λ (read : Read (List Row)). Gives (λ rows. rows.items) c.read_slice.result read) (here ∙ rows ∙ sym k.whole) c.read_slice.ensures.value
