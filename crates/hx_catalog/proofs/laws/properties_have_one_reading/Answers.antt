use Rattle.hx_catalog.specs.Properties.{AreProperties, property_lines}
use Rattle.hx_catalog.proofs.Stages.{properties-kind}
use Rattle.hx_catalog.proofs.Texts.{none-broken, one-place, one-value}
use Rattle.hx_catalog.proofs.laws.properties_have_one_reading.Goals as goal

pub returns-clause-one : goal.returns-clause-one
returns-clause-one c = one-value AreProperties property_lines properties-kind

pub returns-clause-unbroken : goal.returns-clause-unbroken
returns-clause-unbroken c = none-broken AreProperties property_lines properties-kind

pub returns-clause-place : goal.returns-clause-place
returns-clause-place c = one-place AreProperties property_lines properties-kind
