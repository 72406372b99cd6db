use Rattle.std.proofs.Common.{◌≡◌, ◌++◌, drop}
use Rattle.hx_pqmeta.specs.Writing.{chunks_bytes}
use Rattle.hx_pqmeta.proofs.writing.chunk.write_chunks.Given as goal

abbrev pub invariant-loop-i : goal.invariant-loop-i
invariant-loop-i l = l.writer ++ chunks_bytes (drop l.i l.leaves) (drop l.i l.chunks) ≡ l.fn.writer ++ chunks_bytes l.leaves l.chunks
