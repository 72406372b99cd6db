use Rattle.std.proofs.Common.{◌∙◌, refl, sym, arith}
use Rattle.std.proofs.lemmas.Result.{err_from_is_err_and}
use Rattle.hx_spill.specs.Splits.{row_behind}
use Rattle.hx_spill.proofs.Each.{each-more, each-none, each-refuses}
use Rattle.hx_spill.proofs.SliceRows.{all_good, all_sorted, next_follows, same_row}
use Rattle.hx_spill.proofs.split.rows.read_slice.Goals as goal

pub loop-index-init : goal.loop-index-init
loop-index-init c = rw c.in_ok-found.ensures.items record {
  read = each-none (row_behind c.args.start c.args.bytes.now);
  follow = λ row. refl;
  place = omega arith;
  within = c.requires;
}

pub returns-in_err-row-clause-value : goal.returns-in_err-row-clause-value
returns-in_err-row-clause-value c =
    let at = c.loop-index.invariant in
    let same = same_row c.loop-index.index c.args.start c.loop-index.at c.args.bytes.now c.loop-index.found.items c.loop-index.last at.read at.place at.follow in
    let given = err_from_is_err_and c.from_residual-in_err-row.result c.from_residual-in_err-row.ensures.1 in
    rw (given.1, given.2) (each-refuses (row_behind c.args.start c.args.bytes.now) c.args.rows c.loop-index.index c.loop-index.found.items c.in_err-row.field-0.0 c.loop-index-test.true at.read (same ∙ sym c.in_err-row.ensures.value))

pub loop-index-preserved : goal.loop-index-preserved
loop-index-preserved c =
    let at = c.loop-index.invariant in
    let row = c.in_ok-row.row in
    let found = c.loop-index.found.items in
    let same = same_row c.loop-index.index c.args.start c.loop-index.at c.args.bytes.now found c.loop-index.last at.read at.place at.follow in
    rw c.in_ok-push.ensures record {
      read = each-more (row_behind c.args.start c.args.bytes.now) c.loop-index.index found row at.read (same ∙ sym c.in_ok-row.ensures.value);
      follow = next_follows found row c.loop-index.last c.in_ok-row.ensures.follows at.follow;
      place = omega (arith, at.place);
      within = c.in_ok-row.ensures.there;
    }

pub returns-clause-good : goal.returns-clause-good
returns-clause-good c = all_good c.loop-index.index c.args.start c.args.bytes.now c.loop-index.found.items c.loop-index.invariant.read

pub returns-clause-sorted : goal.returns-clause-sorted
returns-clause-sorted c = all_sorted c.loop-index.index c.args.start c.args.bytes.now c.loop-index.found.items c.loop-index.invariant.read
