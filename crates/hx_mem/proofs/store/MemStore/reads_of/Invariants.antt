use Rattle.std.proofs.Common.{◌≡◌, ◌≤◌, take}
use Rattle.hx_mem.specs.Stores.{count_of}
use Rattle.hx_mem.proofs.store.MemStore.reads_of.Given as goal

abbrev pub invariant-loop-at : goal.invariant-loop-at
invariant-loop-at l = record {
  count : l.count ≡ count_of l.name (take l.at l.self.looked);
  few : l.count ≤ l.at;
}
