use Rattle.std.proofs.Common.{◌∙◌, ◌∷◌, ◌++◌, [], refl, sym, ap, arith}
use Rattle.std.proofs.lemmas.Bool.Decides.{nat_tests}
use Rattle.std.proofs.lemmas.Result.{err_from_is_err_and}
use Rattle.hx_hist.specs.Histograms.{Histogram}
use Rattle.hx_spill.specs.Maps.{pair_behind}
use Rattle.hx_spill.proofs.Each.{each-more, each-none, each-refuses}
use Rattle.hx_spill.proofs.Pairs.{kept_below, next_below, same_entry}
use Rattle.hx_spill.proofs.map.read_pairs.Goals as goal

pub loop-index-init : goal.loop-index-init
loop-index-init c = record {
  pairs = [];
  read = each-none (pair_behind c.args.order c.args.bytes.now);
  counted = (ap (λ (h : Histogram). h.pairs) c.in_ok-hist.ensures, omega arith);
  below = λ p. grind (arith, nat_tests);
  order_is = ap (λ (h : Histogram). h.order) c.in_ok-hist.ensures;
  place = refl;
  within = c.requires.head;
}

pub returns-in_err-pair-clause-refused : goal.returns-in_err-pair-clause-refused
returns-in_err-pair-clause-refused c =
    let at = c.loop-index.invariant in
    let entry = pair_behind c.args.order c.args.bytes.now in
    let same = same_entry c.args.order c.loop-index.index c.loop-index.least c.loop-index.at c.args.bytes.now at.pairs at.read at.place at.below in
    let given = err_from_is_err_and c.from_residual-in_err-pair.result c.from_residual-in_err-pair.ensures.1 in
    rw (given.1, given.2) (each-refuses entry c.args.n c.loop-index.index at.pairs c.in_err-pair.field-0.0 c.loop-index-test.true at.read (same ∙ sym c.in_err-pair.ensures.value))

pub count_pair-requires-clause-below : goal.count_pair-requires-clause-below
count_pair-requires-clause-below c =
    let at = c.loop-index.invariant in
    kept_below c.args.rows c.loop-index.least c.in_ok-pair.pair.pixel at.pairs c.loop-index.hist.pairs c.loop-index.left at.counted at.below c.in_ok-pair.ensures.least

pub loop-index-preserved : goal.loop-index-preserved
loop-index-preserved c =
    let at = c.loop-index.invariant in
    let entry = pair_behind c.args.order c.args.bytes.now in
    let pair = c.in_ok-pair.pair in
    let same = same_entry c.args.order c.loop-index.index c.loop-index.least c.loop-index.at c.args.bytes.now at.pairs at.read at.place at.below in
    record {
      pairs = at.pairs ++ pair ∷ [];
      read = each-more entry c.loop-index.index at.pairs pair at.read (same ∙ sym c.in_ok-pair.ensures.value);
      counted = c.in_ok-left.ensures.counted c.args.rows at.pairs at.counted;
      below = next_below at.pairs pair c.loop-index.least c.in_ok-pair.ensures.least at.below;
      order_is = c.count_pair.ensures.order ∙ at.order_is;
      place = omega (arith, at.place);
      within = c.in_ok-pair.ensures.there;
    }
