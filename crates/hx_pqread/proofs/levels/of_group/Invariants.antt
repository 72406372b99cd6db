use Rattle.std.proofs.Common.{◌≡◌, take}
use Rattle.hx_pqread.specs.Runs.{group_levels}
use Rattle.hx_pqread.specs.Levels.{told_of, IsWithin}
use Rattle.hx_pqread.proofs.levels.of_group.Given as goal

abbrev pub invariant-loop-index : goal.invariant-loop-index
invariant-loop-index l = record {
  within : IsWithin l.told;
  count : l.told.count ≡ l.index;
  so_far : l.told ≡ told_of (take l.index (group_levels l.group));
}
