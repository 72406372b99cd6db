use Rattle.std.proofs.Common.{ap, arith}
use Rattle.hx_base.specs.declared.pixel.Pixel.{Pixel}
use Rattle.hx_work.proofs.ByPixel.{row_added}
use Rattle.hx_work.proofs.sorting.by_pixel.Goals as goal

pub loop-row-preserved : goal.loop-row-preserved
loop-row-preserved c =
    row_added (λ list. list.items) c.args.rows.now c.loop-row.row-index _ c.loop-row.lists.items c.holding-pixel.result.number c.push.new.self _ c.index_mut.result.now.items c.requires (omega (arith, c.loop-row-test.true))
    (ap (λ (pixel : Pixel). pixel.number) c.holding-pixel.ensures.value) (ap (λ v. v.items) c.index_mut.ensures.value) c.in_ok-push.ensures.items c.loop-row.invariant
