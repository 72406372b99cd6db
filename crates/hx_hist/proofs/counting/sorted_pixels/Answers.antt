use Rattle.std.proofs.Common.{◌∙◌, arith, map, ap}
use Rattle.std.proofs.lemmas.List.{take_all}
use Rattle.hx_base.specs.Pixels.{pixel_of}
use Rattle.hx_base.specs.declared.row.Row.{Row}
use Rattle.hx_hist.proofs.RowPixels.{count_pixels, pixels_range}
use Rattle.hx_hist.proofs.counting.sorted_pixels.Goals as goal

pub returns-clause-counts : goal.returns-clause-counts
returns-clause-counts c =
    let whole = c.loop-row.invariant ∙ ap (map (λ (row : Row). pixel_of c.args.order row.hp)) (take_all c.loop-row.row-index c.args.rows.now (omega arith)) in
    count_pixels c.args.order c.args.rows.now c.sort_unstable.new.self.items (rw whole at c.sort_unstable.ensures.permutation)

pub returns-clause-range : goal.returns-clause-range
returns-clause-range c =
    let whole = c.loop-row.invariant ∙ ap (map (λ (row : Row). pixel_of c.args.order row.hp)) (take_all c.loop-row.row-index c.args.rows.now (omega arith)) in
    pixels_range c.args.order c.args.rows.now c.sort_unstable.new.self.items c.requires.order c.requires.good (rw whole at c.sort_unstable.ensures.permutation)
