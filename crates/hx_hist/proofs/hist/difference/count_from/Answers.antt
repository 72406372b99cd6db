use Rattle.std.proofs.Common.{◌∙◌, ap, arith, sym}
use Rattle.std.proofs.lemmas.Bool.{ltb-false}
use Rattle.hx_hist.proofs.Counts.{count_missing, count_there}
use Rattle.hx_hist.proofs.Pairs.{pixel_key}
use Rattle.hx_hist.proofs.hist.difference.count_from.Goals as goal

pub returns-then-pair-pixel : goal.returns-then-pair-pixel
returns-then-pair-pixel c =
    let at = c.in-Some.ensures.lookup in
    count_there c.args.pixel c.args.index c.args.pairs.now c.in-Some.pair.now c.requires.ascending at.3.0 at.3.1 c.if-pair-pixel.true

pub returns-else-pair-pixel : goal.returns-else-pair-pixel
returns-else-pair-pixel c =
    let at = c.in-Some.ensures.lookup in
    count_missing c.args.pixel c.args.index c.args.pairs.now c.requires.ascending c.requires.least (λ d within same. c.if-pair-pixel.false (ap pixel_key (at.3.1 d) ∙ same))

pub returns-in-None : goal.returns-in-None
returns-in-None c =
    let past = ltb-false c.args.index _ (sym c.in-None.ensures.lookup.0) in
    count_missing c.args.pixel c.args.index c.args.pairs.now c.requires.ascending c.requires.least (λ d within same. omega arith)
