use Rattle.std.proofs.Common.{◌≡◌, ◌-◌, ◌≤◌, take, drop}
use Rattle.std.specs.List.{flat_map}
use Rattle.hx_pqread.specs.Runs.{group_levels}
use Rattle.hx_pqread.specs.Levels.{told_of, joined, IsWithin}
use Rattle.hx_pqread.proofs.levels.of_groups.Given as goal

abbrev pub invariant-loop-group : goal.invariant-loop-group
invariant-loop-group l = record {
  within : IsWithin l.told;
  few : l.told.count ≤ l.wanted;
  so_far : joined l.told (told_of (take (l.wanted - l.told.count) (flat_map group_levels (drop l.group-index l.groups)))) ≡ told_of (take l.wanted (flat_map group_levels l.fn.groups));
}
