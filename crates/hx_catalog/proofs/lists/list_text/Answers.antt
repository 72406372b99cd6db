use Rattle.hx_catalog.proofs.Listed.{list-written}
use Rattle.hx_catalog.proofs.lists.list_text.Goals as goal

pub loop-pixel-preserved : goal.loop-pixel-preserved
loop-pixel-preserved c =
    list-written c.args.parts.now c.loop-pixel.pixel-index _ c.loop-pixel.text.items c.push_line.new.text.items c.loop-pixel-test.true c.loop-pixel.invariant c.in_ok-push_line.ensures
