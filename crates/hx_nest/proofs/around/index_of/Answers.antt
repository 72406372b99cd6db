use Rattle.std.proofs.Common.{ltb, rules, ℕ}
use Rattle.std.proofs.lemmas.Bool.{ltb-true, ltb-false}
use Rattle.std.proofs.lemmas.List.Sorted.{IsPartitionPoint-from_clause, IsPartitionedBy-ltb}
use Rattle.hx_base.proofs.Ascending.{ascends_is_nondecreasing}
use Rattle.hx_nest.proofs.around.index_of.Goals as goal

pub returns : goal.returns
returns c =
    let parted = IsPartitionedBy-ltb (λ other. other) _ c.args.pixel (ascends_is_nondecreasing (λ (x : ℕ). x) c.args.pixels.now c.requires) in
    let point = IsPartitionPoint-from_clause (λ other. ltb other c.args.pixel) _ _ c.partition_point.ensures.partitioned parted (λ a r q k. search rules) in
    record {
      within = c.partition_point.ensures.bound;
      before = λ k d lo hi. ltb-true _ _ (point.0 k d lo hi);
      after = λ k d lo hi. ltb-false _ _ (point.1 k d lo hi);
    }
