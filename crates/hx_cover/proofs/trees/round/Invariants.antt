use Rattle.std.specs.List.{AllWithin}
use Rattle.hx_cover.specs.CoverBoxes.{IsSound, box_seen}
use Rattle.hx_cover.specs.Bounds.{IsInside}
use Rattle.hx_cover.proofs.trees.round.Given as goal

abbrev pub invariant-loop-seen : goal.invariant-loop-seen
invariant-loop-seen l = record {
  sound : IsSound l.all;
  round : AllWithin (λ seen. IsInside (box_seen seen) (box_seen l.all)) l.run 0 l.seen-index;
}
