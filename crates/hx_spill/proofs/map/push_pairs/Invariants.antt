use Rattle.std.proofs.Common.{◌≡◌, ◌++◌, take}
use Rattle.std.specs.List.{flat_map}
use Rattle.hx_spill.specs.Maps.{bytes_of_pair}
use Rattle.hx_spill.proofs.map.push_pairs.Given as goal

abbrev pub invariant-loop-pair : goal.invariant-loop-pair
invariant-loop-pair l = l.bytes.items ≡ l.fn.bytes.items ++ flat_map bytes_of_pair (take l.pair-index l.pairs)
