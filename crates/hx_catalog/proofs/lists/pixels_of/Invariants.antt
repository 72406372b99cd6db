use Rattle.std.proofs.Common.{◌≡◌, ◌++◌, length}
use Rattle.hx_catalog.specs.Lists.{IsList, list_text}
use Rattle.hx_catalog.proofs.lists.pixels_of.Given as goal

-- the pixels so far, and what is left behind their lines
abbrev pub invariant-loop-rest : goal.invariant-loop-rest
invariant-loop-rest l = record {
  list : IsList l.pixels.items;
  form : l.fn.bytes ≡ list_text l.pixels.items ++ l.rest;
}

abbrev pub decreases-loop-rest : goal.decreases-loop-rest
decreases-loop-rest l = length l.rest
