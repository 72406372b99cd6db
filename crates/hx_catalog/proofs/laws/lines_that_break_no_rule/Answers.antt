use Rattle.hx_catalog.proofs.Unbroken.{unbroken-highest, unbroken-list, unbroken-lowest, unbroken-margin}
use Rattle.hx_catalog.proofs.laws.lines_that_break_no_rule.Goals as goal

pub returns-clause-list : goal.returns-clause-list
returns-clause-list c = unbroken-list

pub returns-clause-lowest : goal.returns-clause-lowest
returns-clause-lowest c = unbroken-lowest

pub returns-clause-highest : goal.returns-clause-highest
returns-clause-highest c = unbroken-highest

pub returns-clause-margin_order : goal.returns-clause-margin_order
returns-clause-margin_order c = unbroken-margin
