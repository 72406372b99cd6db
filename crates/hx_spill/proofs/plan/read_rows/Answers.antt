use Rattle.std.proofs.Common.{◌∙◌, refl, sym, arith}
use Rattle.std.proofs.lemmas.Bool.Decides.{nat_tests}
use Rattle.std.proofs.lemmas.Result.{err_from_is_err_and}
use Rattle.hx_base.specs.Pixels.{IsPixel}
use Rattle.hx_align.specs.Plans.{IsPlanRow}
use Rattle.hx_align.specs.declared.plan.PlanRow.{PlanRow}
use Rattle.hx_spill.specs.Plans.{row_behind}
use Rattle.hx_spill.proofs.Each.{each-more, each-none, each-refuses}
use Rattle.hx_spill.proofs.PlanRows.{next_ascends, next_below, next_all, next_each, same_row}
use Rattle.hx_spill.proofs.plan.read_rows.Goals as goal

pub loop-index-init : goal.loop-index-init
loop-index-init c = rw c.in_ok-rows.ensures.items record {
  read = each-none (row_behind c.args.bytes.now);
  exist = λ k d within. absurd (omega arith);
  ascend = λ i j d lt within. absurd (omega arith);
  rows_fit = λ k d within. absurd (omega arith);
  below = λ p. grind (arith, nat_tests);
  place = refl;
  within = c.requires.head;
}

pub returns-in_err-row-clause-refused : goal.returns-in_err-row-clause-refused
returns-in_err-row-clause-refused c =
    let at = c.loop-index.invariant in
    let same = same_row c.loop-index.index c.loop-index.least c.loop-index.at c.args.bytes.now c.loop-index.rows.items at.read at.place at.below in
    let given = err_from_is_err_and c.from_residual-in_err-row.result c.from_residual-in_err-row.ensures.1 in
    rw (given.1, given.2) (each-refuses (row_behind c.args.bytes.now) c.args.n c.loop-index.index c.loop-index.rows.items c.in_err-row.field-0.0 c.loop-index-test.true at.read (same ∙ sym c.in_err-row.ensures.value))

pub loop-index-preserved : goal.loop-index-preserved
loop-index-preserved c =
    let at = c.loop-index.invariant in
    let row = c.in_ok-row.row in
    let rows = c.loop-index.rows.items in
    let read = c.in_ok-row.ensures in
    let same = same_row c.loop-index.index c.loop-index.least c.loop-index.at c.args.bytes.now rows at.read at.place at.below in
    rw (c.in_ok-push.ensures, c.end_position-least.ensures.value) record {
      read = each-more (row_behind c.args.bytes.now) c.loop-index.index rows row at.read (same ∙ sym read.value);
      exist = next_each IsPixel (λ (r : PlanRow). r.pixel) rows row read.exists at.exist;
      ascend = next_ascends rows row c.loop-index.least read.least at.below at.ascend;
      rows_fit = next_all IsPlanRow rows row read.fits at.rows_fit;
      below = next_below rows row c.loop-index.least (omega (arith, read.least, c.end_position-least.ensures.value, c.end_position-least.ensures.after)) at.below;
      place = omega (arith, at.place);
      within = read.there;
    }
