use Rattle.std.proofs.Common.{inr}
use Rattle.hx_catalog.proofs.opening.own_properties.Goals as goal

pub returns-in-Some-clause-refused : goal.returns-in-Some-clause-refused
returns-in-Some-clause-refused c =
    let read = c.in_ok-properties.ensures.read in
    inr (c.in_ok-properties.properties, read.0, read.1, c.in-Some.ensures)
