use Rattle.hx_journal.proofs.Headed.{one-header}
use Rattle.hx_journal.proofs.laws.no_header_begins_another.Goals as goal

pub returns : goal.returns
returns c = one-header
