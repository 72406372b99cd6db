use Rattle.std.proofs.Common.{◌≡◌, ◌≤◌, length, take}
use Rattle.hx_mem.proofs.bytes.Bytes.stir.Given as goal

abbrev pub invariant-loop-at : goal.invariant-loop-at
invariant-loop-at l = record {
  front : take l.from l.self-inside.items.items ≡ take l.from l.fn.self;
  long : length l.self-inside.items.items ≡ length l.fn.self;
  past : l.from ≤ l.at;
}
