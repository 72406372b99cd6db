use Rattle.std.proofs.Common.{arith, refl}
use Rattle.hx_base.proofs.Ranges.{all_end_first}
use Rattle.hx_base.proofs.pixels.each_ends_first.Goals as goal

pub returns : goal.returns
returns c = (
  λ e. all_end_first c.args.pixels.now (λ k d lt. c.loop-i.invariant k d (omega (arith, lt, c.loop-i.auto.i, c.loop-i.auto.i-end, c.loop-i-test.false))),
  λ h. refl,
)
