use Rattle.std.proofs.Common.{◌≡◌, ◌-◌, ◌*◌, ◌≤◌, ◌++◌, true, length}
use Rattle.hx_pqread.specs.Numbers.{numbers_at}
use Rattle.hx_pqread.proofs.numbers.push_few.Given as goal

abbrev pub invariant-loop : goal.invariant-loop
invariant-loop l = record {
  enough : (l.count - l.counter) * 8 ≤ length l.left;
  so_far : l.numbers.items ++ numbers_at true (l.count - l.counter) l.left ≡ l.fn.numbers.items ++ numbers_at true l.count l.bytes;
}
