use Rattle.std.proofs.Common.{length}
use Rattle.hx_journal.proofs.Damage.{ReadTo}
use Rattle.hx_journal.proofs.opening.first_damage.Given as goal

abbrev pub invariant-loop-gate : goal.invariant-loop-gate
invariant-loop-gate l = ReadTo l.bytes l.rest

abbrev pub decreases-loop-gate : goal.decreases-loop-gate
decreases-loop-gate l = length l.rest
