use Rattle.std.proofs.Common.{◌≡◌, ◌+◌, ◌-◌, ◌*◌, ◌/◌, ◌%◌, ◌≤◌, ◌++◌, true, length}
use Rattle.hx_pqread.specs.Numbers.{numbers_at}
use Rattle.hx_pqread.proofs.numbers.push_wide.Given as goal

abbrev pub invariant-loop : goal.invariant-loop
invariant-loop l = record {
  enough : (l.count / 8 - l.counter) * 64 + l.count % 8 * 8 ≤ length l.left;
  so_far : l.numbers.items ++ numbers_at true ((l.count / 8 - l.counter) * 8 + l.count % 8) l.left ≡ l.fn.numbers.items ++ numbers_at true l.count l.bytes;
}
