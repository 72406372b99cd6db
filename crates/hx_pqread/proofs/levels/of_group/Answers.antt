use Rattle.std.proofs.Common.{◌∙◌, ap, arith}
use Rattle.hx_pqread.specs.Levels.{joined}
use Rattle.hx_pqread.proofs.Saying.{full_group, next_level}
use Rattle.hx_pqread.proofs.levels.of_group.Goals as goal

pub loop-index-preserved : goal.loop-index-preserved
loop-index-preserved c = record {
  within = c.joined-told.ensures.within;
  count = omega arith;
  so_far =
      c.joined-told.ensures.value ∙ (ap (joined c.loop-index.told) c.equal-in-loop-index.ensures.value
      ∙ next_level c.args.group c.loop-index.index c.level.result c.loop-index.told (omega arith) c.level.ensures.value c.loop-index.invariant.so_far);
}

pub returns-then-group-eq255-clause-value : goal.returns-then-group-eq255-clause-value
returns-then-group-eq255-clause-value c = c.equal.ensures.value ∙ full_group c.args.group c.args.count c.if-group-eq255.true c.requires
