use Rattle.hx_journal.proofs.AtRest.{keeps, opens, refused}
use Rattle.hx_journal.proofs.laws.a_journal_opens_as_it_stands.Goals as goal

pub returns-clause-opened : goal.returns-clause-opened
returns-clause-opened c = opens

pub returns-clause-refused : goal.returns-clause-refused
returns-clause-refused c = refused

pub returns-clause-kept : goal.returns-clause-kept
returns-clause-kept c = keeps
