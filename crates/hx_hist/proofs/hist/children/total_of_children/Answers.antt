use Rattle.std.proofs.Common.{◌∙◌, arith, sym, ap}
use Rattle.hx_hist.specs.Histograms.{total_of}
use Rattle.hx_hist.proofs.Children.{part_total}
use Rattle.hx_hist.proofs.hist.children.total_of_children.Goals as goal

pub total-requires : goal.total-requires
total-requires c =
    let indices = c.indices_of_children-start in
    let part = part_total indices.result.0 indices.result.1 c.args.pairs.now indices.ensures.order in
    omega (arith, part, c.requires.total)

pub returns : goal.returns
returns c = c.total.ensures ∙ ap total_of (sym c.indices_of_children-start.ensures.children)
