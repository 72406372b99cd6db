use Rattle.std.proofs.Common.{◌≡◌, ◌-◌, ◌*◌, ◌%◌, ◌^◌, arith}
use Rattle.hx_base.proofs.Powers.{shift_fits}
use Rattle.hx_base.proofs.Ranges.{range_within, some_range}
use Rattle.hx_base.specs.Pixels.{IsPixel, first_position}
use Rattle.hx_base.specs.declared.pixel.Pixel.{Pixel}
use Rattle.hx_base.proofs.pixel.Pixel.first_position.Goals as goal

shifted : (pixel : Pixel) → IsPixel pixel → pixel.number * 2 ^ (2 * (29 - pixel.order)) % 2 ^ 64 ≡ first_position pixel
shifted pixel exists = shift_fits pixel.number (29 - pixel.order) (omega (arith, range_within pixel exists, some_range pixel))

pub returns-clause-value : goal.returns-clause-value
returns-clause-value c = rw c.bits_below.ensures (shifted c.args.self.now c.requires)

pub returns-clause-range : goal.returns-clause-range
returns-clause-range c = rw (c.bits_below.ensures, shifted c.args.self.now c.requires) (omega (arith, range_within c.args.self.now c.requires, some_range c.args.self.now))
