use Rattle.std.proofs.Common.{◌≡◌, ◌++◌, drop, map}
use Rattle.hx_base.specs.Columns.{name_in}
use Rattle.hx_pqwrite.specs.Files.{leaf_of}
use Rattle.hx_pqwrite.proofs.footer.leaves_of.Given as goal

abbrev pub invariant-loop-column : goal.invariant-loop-column
invariant-loop-column l = l.leaves.items ++ map leaf_of (map name_in (drop l.column-index l.columns)) ≡ map leaf_of (map name_in l.columns)
