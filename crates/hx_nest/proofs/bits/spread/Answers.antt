use Rattle.std.proofs.Common.{◌∙◌, sym, arith}
use Rattle.hx_nest.proofs.Spread.{masks, one_digit, spread_at, step_apart}
use Rattle.hx_nest.proofs.bits.spread.Goals as goal

pub returns : goal.returns
returns c =
    let x = c.args.x in
    let number = c.from-bits.ensures ∙ sym (one_digit 32 x c.ranges.x.fits) in
    let by_16 = step_apart 16 0 _ x _ number (omega arith) (sym masks.0) in
    let by_8 = step_apart 8 1 _ x _ by_16 (omega arith) (sym masks.1) in
    let by_4 = step_apart 4 3 _ x _ by_8 (omega arith) (sym masks.2) in
    let by_2 = step_apart 2 7 _ x _ by_4 (omega arith) (sym masks.3) in
    let by_1 = step_apart 1 15 _ x _ by_2 (omega arith) (sym masks.4) in
    λ k order small. by_1 ∙ spread_at 32 k x order small
