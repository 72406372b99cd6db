use Rattle.hx_catalog.specs.Lists.{IsList, list_lines}
use Rattle.hx_catalog.proofs.Listed.{list-kind}
use Rattle.hx_catalog.proofs.Texts.{none-broken, one-place, one-value}
use Rattle.hx_catalog.proofs.laws.lists_have_one_reading.Goals as goal

pub returns-clause-one : goal.returns-clause-one
returns-clause-one c = one-value IsList list_lines list-kind

pub returns-clause-unbroken : goal.returns-clause-unbroken
returns-clause-unbroken c = none-broken IsList list_lines list-kind

pub returns-clause-place : goal.returns-clause-place
returns-clause-place c = one-place IsList list_lines list-kind
