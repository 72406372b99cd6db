use Rattle.hx_pqmeta.proofs.Framing.{taken_apart, put_together}
use Rattle.hx_pqmeta.proofs.laws.footers_are_framed.Goals as goal

pub returns : goal.returns
returns c file text are_bytes = (λ found. taken_apart file text are_bytes found, λ made. put_together file text made.0 made.1 made.2 made.3)
