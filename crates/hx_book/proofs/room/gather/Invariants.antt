use Rattle.std.proofs.Common.{◌≡◌, ◌≤◌, Some, length, map, vec_capacity}
use Rattle.hx_book.proofs.room.gather.Given as goal

abbrev pub invariant-loop-home : goal.invariant-loop-home
invariant-loop-home g l = record {
  so_far : map Some l.list.items ≡ l.yielded;
  room : length l.fn.homes.items ≤ vec_capacity l.list;
}
