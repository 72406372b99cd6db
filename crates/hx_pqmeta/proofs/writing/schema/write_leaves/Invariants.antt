use Rattle.std.proofs.Common.{◌≡◌, ◌++◌, drop}
use Rattle.hx_pqmeta.specs.Writing.{leaves_bytes}
use Rattle.hx_pqmeta.proofs.writing.schema.write_leaves.Given as goal

abbrev pub invariant-loop-leaf : goal.invariant-loop-leaf
invariant-loop-leaf l = l.writer ++ leaves_bytes (drop l.leaf-index l.leaves) ≡ l.fn.writer ++ leaves_bytes l.leaves
