use Rattle.std.proofs.Common.{◌∙◌, sym}
use Rattle.hx_nest.specs.Bits.{even_bits}
use Rattle.hx_nest.proofs.Spread.{masks, even_at, step_even, step_together}
use Rattle.hx_nest.proofs.bits.gathered.Goals as goal

pub returns : goal.returns
returns c =
    let number = c.args.number in
    let x = even_bits 32 c.args.number in
    let by_1 = step_even 32 number _ (sym masks.4) in
    let by_2 = step_together 1 16 _ x _ by_1 (sym masks.3) in
    let by_4 = step_together 2 8 _ x _ by_2 (sym masks.2) in
    let by_8 = step_together 4 4 _ x _ by_4 (sym masks.1) in
    let by_16 = step_together 8 2 _ x _ by_8 (sym masks.0) in
    let by_32 = step_together 16 1 _ x _ by_16 (sym masks.5) in
    λ k order small. by_32 ∙ even_at 32 k number order small
