use Rattle.std.proofs.Common.{◌≡◌, ◌∙◌, ◌+◌, ℕ, List, [], length, sym, ap, arith, take, drop}
use Rattle.std.proofs.Math.Seq.{drop-length, take-length}
use Rattle.std.proofs.lemmas.Result.{err_from_is_err_and}
use Rattle.hx_spill.specs.Items.{each}
use Rattle.hx_spill.specs.Splits.{entry_behind, looked_at, place_of_row, placed_in, row_behind, rows_of}
use Rattle.hx_spill.specs.declared.split.head.Entry.{Entry}
use Rattle.hx_spill.proofs.Each.{each-length}
use Rattle.hx_spill.proofs.Heads.{next_below, next_rows}
use Rattle.hx_spill.proofs.Slices.{is_next, looked_in, no_refusal, passed, stopped}
use Rattle.hx_spill.proofs.split.rows.check_slices.Goals as goal

pub returns-in_err-entry-clause-value : goal.returns-in_err-entry-clause-value
returns-in_err-entry-clause-value c =
    let at = c.loop-index.invariant in
    absurd (no_refusal c.loop-index.index c.args.n c.loop-index.least c.loop-index.at c.loop-index.before c.args.bytes.now at.entries c.in_err-entry.field-0.0 c.loop-index-test.true at.read at.place at.before at.below c.in_err-entry.ensures.value)

pub returns-in_err-check_slice-clause-value : goal.returns-in_err-check_slice-clause-value
returns-in_err-check_slice-clause-value c =
    let at = c.loop-index.invariant in
    let entry = c.in_ok-entry.entry in
    let next = is_next c.loop-index.index c.args.n c.loop-index.least c.loop-index.at c.loop-index.before c.args.bytes.now at.entries entry c.loop-index-test.true at.read at.place at.before at.below c.in_ok-entry.ensures.value in
    let number = each-length (entry_behind c.args.n c.args.bytes.now) c.args.n at.entries at.read in
    let given = err_from_is_err_and c.from_residual-in_err-check_slice.result c.from_residual-in_err-check_slice.ensures.1 in
    let start : place_of_row c.args.n entry.first ≡ c.loop-index.row_place = ap (λ (k : ℕ). place_of_row c.args.n k) c.in_ok-entry.ensures.first ∙ sym at.row_place in
    let stop = ap (λ (p : ℕ). looked_at (each entry.rows (row_behind p c.args.bytes.now))) start ∙ sym c.in_err-check_slice.ensures.value in
    let stops = stopped c.args.n c.args.bytes.now entry (drop (c.loop-index.index + 1) at.entries) c.in_err-check_slice.field-0.0 stop in
    rw (given.1, given.2) (sym (looked_in c.args.n c.args.bytes.now at.entries at.head number ∙ at.left ∙ ap (λ (es : List Entry). looked_at (placed_in c.args.n c.args.bytes.now es)) next.left ∙ stops))

pub loop-index-preserved : goal.loop-index-preserved
loop-index-preserved c =
    let at = c.loop-index.invariant in
    let entry = c.in_ok-entry.entry in
    let next = is_next c.loop-index.index c.args.n c.loop-index.least c.loop-index.at c.loop-index.before c.args.bytes.now at.entries entry c.loop-index-test.true at.read at.place at.before at.below c.in_ok-entry.ensures.value in
    let start : place_of_row c.args.n entry.first ≡ c.loop-index.row_place = ap (λ (k : ℕ). place_of_row c.args.n k) c.in_ok-entry.ensures.first ∙ sym at.row_place in
    let go = ap (λ (p : ℕ). looked_at (each entry.rows (row_behind p c.args.bytes.now))) start ∙ sym c.in_ok-check_slice.ensures.value in
    record {
      entries = at.entries;
      head = at.head;
      read = at.read;
      before = ap (λ k. k + entry.rows) at.before ∙ sym (ap rows_of next.taken ∙ next_rows (take c.loop-index.index at.entries) entry);
      below = rw (c.from-least.ensures, next.taken) (next_below (take c.loop-index.index at.entries) entry c.loop-index.least c.in_ok-entry.ensures.least at.below);
      left = at.left ∙ ap (λ (es : List Entry). looked_at (placed_in c.args.n c.args.bytes.now es)) next.left ∙ passed c.args.n c.args.bytes.now entry (drop (c.loop-index.index + 1) at.entries) go;
      place = omega (arith, at.place);
      within = at.within;
      row_place = omega (arith, at.row_place);
      row_within = omega (arith, c.in_ok-check_slice.ensures.there);
    }

pub returns-clause-value : goal.returns-clause-value
returns-clause-value c =
    let at = c.loop-index.invariant in
    let number = each-length (entry_behind c.args.n c.args.bytes.now) c.args.n at.entries at.read in
    let done : c.loop-index.index ≡ length at.entries = omega (arith, number) in
    let none : drop c.loop-index.index at.entries ≡ [] = ap (λ k. drop k at.entries) done ∙ drop-length at.entries in
    sym (looked_in c.args.n c.args.bytes.now at.entries at.head number ∙ at.left ∙ ap (λ (es : List Entry). looked_at (placed_in c.args.n c.args.bytes.now es)) none)

pub returns-clause-within : goal.returns-clause-within
returns-clause-within c entries head =
    let at = c.loop-index.invariant in
    let number = each-length (entry_behind c.args.n c.args.bytes.now) c.args.n at.entries at.read in
    let done : c.loop-index.index ≡ length at.entries = omega (arith, number) in
    let all : take c.loop-index.index at.entries ≡ at.entries = ap (λ k. take k at.entries) done ∙ take-length at.entries in
    let same : at.entries ≡ entries = cc (sym at.head ∙ head) in
    let rows : c.loop-index.before ≡ rows_of entries = at.before ∙ ap rows_of (all ∙ same) in
    omega (arith, rows, at.row_place, at.row_within)
