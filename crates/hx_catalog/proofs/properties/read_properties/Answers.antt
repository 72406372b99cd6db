use Rattle.hx_catalog.specs.Properties.{AreProperties, property_lines}
use Rattle.hx_catalog.proofs.Stages.{properties-kind}
use Rattle.hx_catalog.proofs.Texts.{only_damaged, only_read}
use Rattle.hx_catalog.proofs.properties.read_properties.Goals as goal

pub returns-clause-only_read : goal.returns-clause-only_read
returns-clause-only_read c = only_read AreProperties property_lines properties-kind (λ of. of) c.args.bytes.now c.properties_of.result c.properties_of.ensures.read c.properties_of.ensures.refused

pub returns-clause-only_damaged : goal.returns-clause-only_damaged
returns-clause-only_damaged c = only_damaged AreProperties property_lines properties-kind (λ of. of) c.args.bytes.now c.properties_of.result c.properties_of.ensures.read c.properties_of.ensures.refused
