use Rattle.std.proofs.Common.{◌≡◌, ◌+◌, ◌-◌, ◌*◌, ◌%◌, ◌^◌, arith}
use Rattle.hx_base.proofs.Powers.{end_bounds, shift_fits}
use Rattle.hx_base.proofs.Ranges.{range_within, some_range}
use Rattle.hx_base.specs.Pixels.{IsPixel, end_position}
use Rattle.hx_base.specs.declared.pixel.Pixel.{Pixel}
use Rattle.hx_base.proofs.pixel.Pixel.end_position.Goals as goal

shifted : (pixel : Pixel) → IsPixel pixel → (pixel.number + 1) * 2 ^ (2 * (29 - pixel.order)) % 2 ^ 64 ≡ end_position pixel
shifted pixel exists = shift_fits (pixel.number + 1) (29 - pixel.order) (omega (arith, range_within pixel exists))

pub overflow_add-result : goal.overflow_add-result
overflow_add-result c =
    let bounds = end_bounds c.args.self.now.number (29 - c.args.self.now.order) (range_within c.args.self.now c.requires) in
    omega (arith, bounds.0)

pub returns-clause-value : goal.returns-clause-value
returns-clause-value c = rw c.bits_below.ensures (shifted c.args.self.now c.requires)

pub returns-clause-range : goal.returns-clause-range
returns-clause-range c = rw (c.bits_below.ensures, shifted c.args.self.now c.requires) (range_within c.args.self.now c.requires)

pub returns-clause-after : goal.returns-clause-after
returns-clause-after c = rw (c.bits_below.ensures, shifted c.args.self.now c.requires) (some_range c.args.self.now)
