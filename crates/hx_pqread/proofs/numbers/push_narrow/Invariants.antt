use Rattle.std.proofs.Common.{◌≡◌, ◌-◌, ◌*◌, ◌≤◌, ◌++◌, false, length}
use Rattle.hx_pqread.specs.Numbers.{numbers_at}
use Rattle.hx_pqread.proofs.numbers.push_narrow.Given as goal

abbrev pub invariant-loop : goal.invariant-loop
invariant-loop l = record {
  enough : (l.count - l.counter) * 4 ≤ length l.left;
  so_far : l.numbers.items ++ numbers_at false (l.count - l.counter) l.left ≡ l.fn.numbers.items ++ numbers_at false l.count l.bytes;
}
