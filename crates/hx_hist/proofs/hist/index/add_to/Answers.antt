use Rattle.std.proofs.Common.{◌∙◌, arith, ap}
use Rattle.std.proofs.lemmas.List.{get_or_default}
use Rattle.hx_base.proofs.Ascending.{is_index_for}
use Rattle.hx_hist.specs.declared.hist.Pair.{Pair}
use Rattle.hx_hist.proofs.Pairs.{adds_read, adds_insert, pixel_key}
use Rattle.hx_hist.proofs.hist.index.add_to.Goals as goal

pub returns-then-index-pixel-clause-ok : goal.returns-then-index-pixel-clause-ok
returns-then-index-pixel-clause-ok c = adds_read c.args.pixel c.args.count _ c.index_of-index.result c.index_mut-pair.result.now c.index.result.now (omega arith) c.index_mut-pair.ensures.value c.index.ensures c.if-index-pixel.true

pub returns-clause-ok : goal.returns-clause-ok
returns-clause-ok c =
    let index = c.index_of-index in
    let within = rw c.deref.ensures.value at index.ensures.within in
    let before = rw c.deref.ensures.value at index.ensures.before in
    let after = rw c.deref.ensures.value at index.ensures.after in
    rw c.in_ok-insert.ensures.items
    (adds_insert c.args.pixel c.args.count c.args.pairs.now.items index.result c.requires.some
    (is_index_for pixel_key c.args.pixel index.result c.args.pairs.now.items c.requires.ascending within before after
    (λ d lt same. c.if-index-pixel.false (ap (λ (pair : Pair). pair.pixel) (c.index.ensures ∙ get_or_default c.args.pairs.now.items index.result c.index.result.now d lt) ∙ same))))
