use Rattle.std.proofs.Common.{sym}
use Rattle.hx_nest.proofs.laws.touching_is_symmetric.Goals as goal

pub returns : goal.returns
returns c = λ order p q touch. record {
  different = λ e. touch.different (sym e);
  shared = (touch.shared.0, touch.shared.2, touch.shared.1);
}
