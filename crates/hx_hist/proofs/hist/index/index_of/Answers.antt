use Rattle.std.proofs.Common.{◌-◌, length, arith, rules, ltb, sym}
use Rattle.std.proofs.lemmas.Bool.{ltb-true, ltb-false}
use Rattle.std.proofs.lemmas.List.Sorted.{IsPartitionPoint-from_clause, IsPartitionedBy-ltb}
use Rattle.std.proofs.lemmas.Option.{get_or_from_slice_get}
use Rattle.hx_base.proofs.Ascending.{ascends_is_nondecreasing}
use Rattle.hx_hist.proofs.Pairs.{below_last, below_after_last, pixel_key}
use Rattle.hx_hist.proofs.hist.index.index_of.Goals as goal

pub returns-then-last-pixel-clause-before : goal.returns-then-last-pixel-clause-before
returns-then-last-pixel-clause-before c = λ k d lo hi.
    let last = c.in-Some.last.now in
    let at = get_or_from_slice_get c.args.pairs.now (length c.args.pairs.now - 1) last last (sym c.in-Some.ensures.value) in
    below_after_last c.args.pairs.now last c.args.pixel c.requires (sym at) c.if-last-pixel.true k d hi

pub returns-then-last-pixel-2-clause-before : goal.returns-then-last-pixel-2-clause-before
returns-then-last-pixel-2-clause-before c = λ k d lo hi.
    let last = c.in-Some.last.now in
    let at = get_or_from_slice_get c.args.pairs.now (length c.args.pairs.now - 1) last last (sym c.in-Some.ensures.value) in
    below_last c.args.pairs.now last c.args.pixel c.requires (sym at) (omega arith) k d hi

pub returns : goal.returns
returns c =
    let parted = IsPartitionedBy-ltb (λ pair. pair.pixel) _ c.args.pixel (ascends_is_nondecreasing pixel_key c.args.pairs.now c.requires) in
    let point = IsPartitionPoint-from_clause (λ pair. ltb pair.pixel c.args.pixel) _ _ c.partition_point.ensures.partitioned parted (λ a r q k. search rules) in
    record {
      within = c.partition_point.ensures.bound;
      before = λ k d lo hi. ltb-true _ _ (point.0 k d lo hi);
      after = λ k d lo hi. ltb-false _ _ (point.1 k d lo hi);
    }
