use Rattle.std.proofs.Common.{◌≡◌, ◌≤◌, Some, length, map, vec_capacity}
use Rattle.hx_book.proofs.room.house.Given as goal

abbrev pub invariant-loop-source : goal.invariant-loop-source
invariant-loop-source g l = record {
  so_far : l.list.items ≡ map Some l.yielded;
  room : length l.fn.inputs.items ≤ vec_capacity l.list;
}
