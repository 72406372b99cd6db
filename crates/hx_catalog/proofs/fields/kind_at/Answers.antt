use Rattle.hx_catalog.proofs.Fielded.{kind-none}
use Rattle.hx_catalog.proofs.fields.kind_at.Goals as goal

pub returns-in_err-rest : goal.returns-in_err-rest
returns-in_err-rest c = rw c.from_residual.ensures (kind-none c.args.text.now c.in_default.ensures c.in_err-rest.ensures)
