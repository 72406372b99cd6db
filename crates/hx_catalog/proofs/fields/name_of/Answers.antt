use Rattle.hx_catalog.proofs.Fielded.{name-utf8}
use Rattle.hx_catalog.proofs.fields.name_of.Goals as goal

pub returns-in_default : goal.returns-in_default
returns-in_default c = λ name. c.in_default.ensures.cases.0 (name-utf8 c.args.value.now name)
