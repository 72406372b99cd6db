use Rattle.std.proofs.Common.{◌≡◌, ◌≤◌, ℕ, List, Ok, length, nat_le, nat_lt}
use Rattle.std.specs.List.{list_all}
use Rattle.hx_hist.specs.declared.hist.Pair.{Pair}
use Rattle.hx_spill.specs.Items.{each}
use Rattle.hx_spill.specs.Maps.{AreCounted, pair_behind, place_of_pair}
use Rattle.hx_spill.proofs.map.read_pairs.Given as goal

abbrev pub invariant-loop-index : goal.invariant-loop-index
invariant-loop-index l = record {
  pairs : List Pair;
  read : each l.index (pair_behind l.order l.bytes) ≡ Ok pairs;
  counted : AreCounted l.rows pairs l.left l.hist.pairs;
  below : (p : ℕ) → list_all (λ other. nat_lt other.pixel p) pairs ≡ nat_le l.least p;
  order_is : l.hist.order ≡ l.order;
  place : l.at ≡ place_of_pair l.index;
  within : l.at ≤ length l.bytes;
}
