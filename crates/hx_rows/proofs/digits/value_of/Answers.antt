use Rattle.hx_rows.proofs.Words.{value-spelled}
use Rattle.hx_rows.proofs.digits.value_of.Goals as goal

pub returns : goal.returns
returns c = λ bytes all word. value-spelled bytes c.args.digits all word
