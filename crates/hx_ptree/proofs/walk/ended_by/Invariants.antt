use Rattle.std.proofs.Common.{◌≤◌}
use Rattle.std.specs.List.{AllWithin}
use Rattle.hx_base.specs.Pixels.{end_position}
use Rattle.hx_ptree.proofs.walk.ended_by.Given as goal

abbrev pub invariant-loop-index : goal.invariant-loop-index
invariant-loop-index l = AllWithin (λ part. end_position part ≤ l.position) l.parts 0 l.index
