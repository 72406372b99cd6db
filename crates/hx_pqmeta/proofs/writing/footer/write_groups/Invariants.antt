use Rattle.std.proofs.Common.{◌≡◌, ◌++◌, drop}
use Rattle.hx_pqmeta.specs.Writing.{groups_bytes}
use Rattle.hx_pqmeta.proofs.writing.footer.write_groups.Given as goal

abbrev pub invariant-loop-group : goal.invariant-loop-group
invariant-loop-group l = l.writer ++ groups_bytes l.leaves (drop l.group-index l.groups) ≡ l.fn.writer ++ groups_bytes l.leaves l.groups
