use Rattle.hx_rows.proofs.Words.{digits-tested}
use Rattle.hx_rows.proofs.digits.digits_in.Goals as goal

pub returns : goal.returns
returns c = λ bytes is. digits-tested bytes c.args.word is c.if-digits-ne0.false c.if-digits-ne0-2.false
