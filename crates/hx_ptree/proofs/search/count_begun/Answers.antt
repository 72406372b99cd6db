use Rattle.std.proofs.Common.{leb, rules}
use Rattle.std.proofs.lemmas.Bool.{leb-false, leb-true}
use Rattle.std.proofs.lemmas.List.Sorted.{IsPartitionPoint-from_clause}
use Rattle.hx_base.specs.Pixels.{first_position}
use Rattle.hx_ptree.proofs.Lists.{begins_parted}
use Rattle.hx_ptree.proofs.search.count_begun.Goals as goal

pub returns : goal.returns
returns c =
    let parted = begins_parted c.args.parts.now c.requires c.args.position in
    let point = IsPartitionPoint-from_clause (λ part. leb (first_position part) c.args.position) _ _ c.partition_point.ensures.partitioned parted (λ a r q k. search rules) in
    record {
      within = c.partition_point.ensures.bound;
      begun = λ k d lo hi. leb-true _ _ (point.0 k d lo hi);
      later = λ k d lo hi. leb-false _ _ (point.1 k d lo hi);
    }
