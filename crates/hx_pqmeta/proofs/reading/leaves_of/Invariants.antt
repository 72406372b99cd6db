use Rattle.std.proofs.Common.{◌≡◌, drop}
use Rattle.hx_pqmeta.specs.Refusals.{each}
use Rattle.hx_pqmeta.specs.Footers.{leaf_of}
use Rattle.hx_pqmeta.proofs.Checks.{each_from}
use Rattle.hx_pqmeta.proofs.reading.leaves_of.Given as goal

abbrev pub invariant-loop-element : goal.invariant-loop-element
invariant-loop-element l = each_from leaf_of l.leaves.items (drop l.element-index l.elements) ≡ each leaf_of l.fn.elements
