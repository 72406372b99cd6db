use Rattle.std.proofs.Common.{◌≡◌, ◌-◌, ◌≤◌}
use Rattle.std.specs.Option.{option_map}
use Rattle.hx_pqread.specs.Levels.{levels_at, levels_in, told_of, IsWithin}
use Rattle.hx_pqread.proofs.Saying.{over}
use Rattle.hx_pqread.proofs.levels.read_levels.Given as goal

abbrev pub invariant-loop : goal.invariant-loop
invariant-loop l = record {
  within : IsWithin l.told;
  few : l.told.count ≤ l.wanted;
  so_far : over l.told (levels_at (l.end - l.counter) (l.wanted - l.told.count) l.rest) ≡ option_map told_of (levels_in l.wanted l.fn.bytes);
}
