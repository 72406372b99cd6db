use Rattle.std.proofs.Common.{◌≡◌, map, take}
use Rattle.hx_base.specs.Pixels.{pixel_of}
use Rattle.hx_hist.proofs.counting.sorted_pixels.Given as goal

abbrev pub invariant-loop-row : goal.invariant-loop-row
invariant-loop-row l = l.pixels.items ≡ map (λ row. pixel_of l.order row.hp) (take l.row-index l.rows)
