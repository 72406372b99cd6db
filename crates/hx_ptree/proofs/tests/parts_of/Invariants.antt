use Rattle.std.proofs.Common.{◌≤◌, ℕ, List, length}
use Rattle.std.specs.List.{All, AllPairs}
use Rattle.hx_base.specs.Pixels.{IsPixel, end_position, first_position}
use Rattle.hx_base.specs.declared.pixel.Pixel.{Pixel}
use Rattle.hx_ptree.proofs.tests.parts_of.Given as goal

-- partitions that have ended by a position
pub record IsListed (end : ℕ) (parts : List Pixel) : Type 0 where
  pub most : length parts ≤ 100000
  pub each : All IsPixel parts
  pub ascending : AllPairs (λ a b. end_position a ≤ first_position b) parts
  pub ended : All (λ part. end_position part ≤ end) parts

abbrev pub invariant-loop-order : goal.invariant-loop-order
invariant-loop-order l = IsListed l.end l.parts.items
