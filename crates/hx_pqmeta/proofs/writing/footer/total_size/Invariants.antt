use Rattle.std.proofs.Common.{◌≡◌, ◌+◌, drop}
use Rattle.hx_pqmeta.specs.WrittenFields.{total_size}
use Rattle.hx_pqmeta.proofs.writing.footer.total_size.Given as goal

abbrev pub invariant-loop-chunk : goal.invariant-loop-chunk
invariant-loop-chunk l = l.size + total_size (drop l.chunk-index l.chunks) ≡ total_size l.chunks
