use Rattle.hx_import.proofs.Cleaned.{AreRemoved}
use Rattle.hx_import.proofs.cleaning.remove_work.Given as goal

-- the work files of the entries so far were removed
abbrev pub invariant-loop-entry : goal.invariant-loop-entry
invariant-loop-entry g l = AreRemoved g.S.Store.disk l.name l.records l.entry-index l.fn.store l.store
