use Rattle.std.proofs.Common.{◌∙◌, arith, length-append}
use Rattle.std.proofs.lemmas.List.Elements.{All-append}
use Rattle.hx_base.specs.Rows.{IsGood}
use Rattle.hx_hist.proofs.tally.tests.check_tally.Goals as goal

pub loop-input-preserved : goal.loop-input-preserved
loop-input-preserved g c =
    let more = c.in_ok-extend_from_slice.ensures.items in
    let read = c.deref-in-loop-input.ensures.value in
    record {
      order = c.in_ok-add_rows.ensures.order ∙ c.loop-input.invariant.order;
      good = rw (more, read) (All-append IsGood c.loop-input.all.items c.in_ok-rows.rows.items c.loop-input.invariant.good c.in_ok-rows.ensures);
      total = rw (more, read) (omega (arith, c.in_ok-add_rows.ensures.total, c.loop-input.invariant.total, length-append c.loop-input.all.items c.in_ok-rows.rows.items));
    }
