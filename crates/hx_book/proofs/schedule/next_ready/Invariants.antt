use Rattle.std.specs.Prelude.{◌≡◌, ◌<◌, ◌≤◌, ℕ, true, slice_index_or, false}
use Rattle.hx_book.proofs.schedule.next_ready.Given as goal

abbrev pub invariant-loop-number : goal.invariant-loop-number
invariant-loop-number l = record {
  skipped : (n : ℕ) → l.fn.from ≤ n → n < l.number → slice_index_or l.fn.flags n false ≡ true;
}
