use Rattle.std.proofs.Common.{◌≡◌, ◌++◌, drop}
use Rattle.hx_pqread.specs.Columns.{places_of}
use Rattle.hx_pqread.proofs.Joins.{listed}
use Rattle.hx_pqread.proofs.leaf.place_of.Given as goal

abbrev pub invariant-loop-place : goal.invariant-loop-place
invariant-loop-place l = listed l.found ++ places_of l.name l.place (drop l.place l.leaves) ≡ places_of l.name 0 l.leaves
