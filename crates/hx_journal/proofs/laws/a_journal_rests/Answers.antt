use Rattle.std.proofs.Common.{◌≡◌}
use Rattle.hx_journal.proofs.AtRest.{stands_at, stays_at_rest}
use Rattle.hx_journal.proofs.laws.a_journal_rests.Goals as goal

pub returns-clause-stands : goal.returns-clause-stands
returns-clause-stands g c = stands_at g.S.Store.disk

pub returns-clause-others : goal.returns-clause-others
returns-clause-others g c old new name header rs = stays_at_rest g.S.Store.disk old new name header rs (λ f h. h name ≡ f name) (λ f h same. same)
