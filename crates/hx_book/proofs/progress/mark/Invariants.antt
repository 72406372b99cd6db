use Rattle.std.proofs.Common.{◌≡◌, ◌+◌, ◌-◌, ℕ, false, length, slice_index_or}
use Rattle.hx_book.proofs.progress.mark.Given as goal

abbrev pub invariant-loop-flags : goal.invariant-loop-flags
invariant-loop-flags l = record { same : (n : ℕ) → slice_index_or l.flags.items n false ≡ slice_index_or l.fn.flags.items n false }

abbrev pub decreases-loop-flags : goal.decreases-loop-flags
decreases-loop-flags l = l.number + 1 - length l.flags.items
