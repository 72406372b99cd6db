use Rattle.std.proofs.Common.{ap}
use Rattle.hx_base.specs.declared.pixel.Pixel.{Pixel}
use Rattle.hx_margin.proofs.Holders.{one_holding}
use Rattle.hx_margin.proofs.finding.order_holding.Goals as goal

pub returns-in-Some-clause-order : goal.returns-in-Some-clause-order
returns-in-Some-clause-order c = λ part member holds.
    let found = c.in-Some.ensures in
    ap (λ (p : Pixel). p.order) (one_holding c.args.tree.now found.list.disjoint part c.in-Some.part c.args.position member found.part.0 holds found.part.1)
