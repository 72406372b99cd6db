use Rattle.std.proofs.Common.{◌∙◌, ◌+◌, ◌∷◌, ◌++◌, [], refl, sym, arith}
use Rattle.std.proofs.lemmas.Result.{err_from_is_err_and}
use Rattle.hx_spill.specs.Items.{each}
use Rattle.hx_spill.specs.Splits.{row_behind}
use Rattle.hx_spill.proofs.Each.{each-more, each-none, each-stopped, each-stops}
use Rattle.hx_spill.proofs.SliceRows.{looked_err, next_follows, same_row}
use Rattle.hx_spill.proofs.split.rows.check_slice.Goals as goal

pub loop-index-init : goal.loop-index-init
loop-index-init c = record {
  found = [];
  read = each-none (row_behind c.args.start c.args.bytes.now);
  follow = λ row. refl;
  place = omega arith;
  within = c.requires;
}

pub returns-in_err-row-clause-value : goal.returns-in_err-row-clause-value
returns-in_err-row-clause-value c =
    let at = c.loop-index.invariant in
    let row = row_behind c.args.start c.args.bytes.now in
    let same = same_row c.loop-index.index c.args.start c.loop-index.at c.args.bytes.now at.found c.loop-index.last at.read at.place at.follow in
    let given = err_from_is_err_and c.from_residual.result c.from_residual.ensures.1 in
    let stop = each-stops row c.loop-index.index at.found c.in_err-row.field-0.0 at.read (same ∙ sym c.in_err-row.ensures.value) in
    rw (given.1, given.2) (sym (looked_err (each c.args.rows row) c.in_err-row.field-0.0 (each-stopped row c.args.rows (c.loop-index.index + 1) c.in_err-row.field-0.0 (omega (arith, c.loop-index-test.true)) stop)))

pub loop-index-preserved : goal.loop-index-preserved
loop-index-preserved c =
    let at = c.loop-index.invariant in
    let row = c.in_ok-row.row in
    let same = same_row c.loop-index.index c.args.start c.loop-index.at c.args.bytes.now at.found c.loop-index.last at.read at.place at.follow in
    record {
      found = at.found ++ row ∷ [];
      read = each-more (row_behind c.args.start c.args.bytes.now) c.loop-index.index at.found row at.read (same ∙ sym c.in_ok-row.ensures.value);
      follow = next_follows at.found row c.loop-index.last c.in_ok-row.ensures.follows at.follow;
      place = omega (arith, at.place);
      within = c.in_ok-row.ensures.there;
    }
