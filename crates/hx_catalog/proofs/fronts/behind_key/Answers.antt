use Rattle.hx_catalog.proofs.Keys.{behind-key}
use Rattle.hx_catalog.proofs.fronts.behind_key.Goals as goal

pub returns : goal.returns
returns c = behind-key c.args.text.now c.args.key.now c.in_ok-rest.rest.now c.behind-2.result c.in_ok-rest.ensures c.behind-2.ensures
