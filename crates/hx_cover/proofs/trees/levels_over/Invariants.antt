use Rattle.std.proofs.Common.{◌-◌}
use Rattle.std.specs.List.{All}
use Rattle.hx_cover.specs.Trees.{IsLevel}
use Rattle.hx_cover.proofs.trees.levels_over.Given as goal

abbrev pub decreases-loop-level : goal.decreases-loop-level
decreases-loop-level l = 60 - l.level.shift

abbrev pub invariant-loop-level : goal.invariant-loop-level
invariant-loop-level l = record {
  levels : All (IsLevel l.right) l.levels.items;
  level : IsLevel l.right l.level;
}
