use Rattle.std.proofs.Common.{arith}
use Rattle.hx_journal.proofs.Headed.{name-utf8}
use Rattle.hx_journal.proofs.heading.is_name.Goals as goal

pub returns-in_default : goal.returns-in_default
returns-in_default c = (λ no. grind (arith, no), λ name. absurd (c.in_default.ensures.cases.0 (name-utf8 c.args.value.now name)))
