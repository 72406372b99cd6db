use Rattle.std.specs.Prelude.{◌≡◌, ◌<◌, ℕ}
use Rattle.hx_book.specs.Tasks.{count_of}
use Rattle.hx_book.proofs.schedule.stage_after.Given as goal

abbrev pub invariant-loop-kind : goal.invariant-loop-kind
invariant-loop-kind l = record {
  empty : (k : ℕ) → l.fn.stage < k → k < l.kind → count_of l.fn.inputs l.fn.partitions k ≡ 0;
}
