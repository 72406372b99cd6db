use Rattle.std.proofs.Common.{take}
use Rattle.std.specs.Prelude.{All, IfSome}
use Rattle.hx_base.specs.Pixels.{pixel_of}
use Rattle.hx_xmatch.specs.Runs.{AreIndices, HasAround}
use Rattle.hx_xmatch.proofs.runs.around_all.Given as goal

abbrev pub invariant-loop-row : goal.invariant-loop-row
invariant-loop-row l = record {
  indices : AreIndices l.tree l.indices.items;
  last : IfSome l.last (λ pixel. HasAround l.tree l.margin_order pixel l.indices.items);
  around : All (λ row. HasAround l.tree l.margin_order (pixel_of l.margin_order row.hp) l.indices.items) (take l.row-index l.rows);
}
