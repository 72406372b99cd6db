use Rattle.std.proofs.Common.{◌≡◌, ◌<◌, ℕ, Some, Contains, slice_index}
use Rattle.std.specs.Prelude.{slice_get}
use Rattle.hx_base.specs.Pixels.{LiesIn}
use Rattle.hx_base.specs.declared.pixel.Pixel.{Pixel}
use Rattle.hx_xmatch.specs.Runs.{AreIndices}
use Rattle.hx_xmatch.proofs.runs.add_around.Given as goal

-- the partitions that contain one of the neighbours so far
abbrev pub invariant-loop-i : goal.invariant-loop-i
invariant-loop-i l = record {
  indices : AreIndices l.tree l.indices.items;
  kept : (other : ℕ) → Contains l.initial.indices.items other → Contains l.indices.items other;
  around : (k index : ℕ) (part : Pixel) → k < l.i → slice_get l.tree index ≡ Some part → LiesIn (record { order = l.margin_order; number = slice_index l.around k }) part → Contains l.indices.items index;
}
