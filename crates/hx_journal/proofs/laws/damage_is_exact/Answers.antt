use Rattle.hx_journal.proofs.Damage.{no-journal, one-place, whole}
use Rattle.hx_journal.proofs.laws.damage_is_exact.Goals as goal

pub returns-clause-place : goal.returns-clause-place
returns-clause-place c = one-place

pub returns-clause-damaged : goal.returns-clause-damaged
returns-clause-damaged c = no-journal

pub returns-clause-whole : goal.returns-clause-whole
returns-clause-whole c = whole c.args.bytes.now c.first_damage.result c.first_damage.ensures
