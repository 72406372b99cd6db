use Rattle.hx_catalog.specs.Lists.{IsList, list_lines}
use Rattle.hx_catalog.proofs.Listed.{list-kind}
use Rattle.hx_catalog.proofs.Texts.{only_damaged, only_read}
use Rattle.hx_catalog.proofs.lists.read_list.Goals as goal

pub returns-clause-only_read : goal.returns-clause-only_read
returns-clause-only_read c = only_read IsList list_lines list-kind (λ pixels. pixels.items) c.args.bytes.now c.pixels_of.result c.pixels_of.ensures.read c.pixels_of.ensures.refused

pub returns-clause-only_damaged : goal.returns-clause-only_damaged
returns-clause-only_damaged c = only_damaged IsList list_lines list-kind (λ pixels. pixels.items) c.args.bytes.now c.pixels_of.result c.pixels_of.ensures.read c.pixels_of.ensures.refused
