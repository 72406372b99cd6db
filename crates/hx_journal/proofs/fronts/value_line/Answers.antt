use Rattle.hx_journal.proofs.Lines.{value-at}
use Rattle.hx_journal.proofs.fronts.value_line.Goals as goal

pub returns : goal.returns
returns c = value-at c.args.text.now c.args.key.now c.in_ok-value.value.now c.until_newline.result c.in_ok-value.ensures c.until_newline.ensures
