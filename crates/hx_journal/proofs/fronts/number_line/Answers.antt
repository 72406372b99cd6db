use Rattle.hx_journal.proofs.Lines.{number-at}
use Rattle.hx_journal.proofs.fronts.number_line.Goals as goal

pub returns : goal.returns
returns c = number-at c.args.text.now c.args.key.now c.in_ok-value.value.now c.number_until.result c.in_ok-value.ensures c.number_until.ensures
