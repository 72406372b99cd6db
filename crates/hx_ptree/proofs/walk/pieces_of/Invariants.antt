use Rattle.std.proofs.Common.{◌≡◌, ◌<◌, ◌≤◌, ℕ, Some, length, slice_get}
use Rattle.hx_base.specs.declared.pixel.Pixel.{Pixel}
use Rattle.hx_ptree.specs.Pieces.{HasWalkedTo, IsPiece}
use Rattle.hx_ptree.specs.declared.walk.Piece.{Piece}
use Rattle.hx_ptree.proofs.walk.pieces_of.Given as goal

-- a piece for each left partition so far, and the walk stands before the next
abbrev pub invariant-loop-index : goal.invariant-loop-index
invariant-loop-index l = record {
  count : length l.pieces.items ≡ l.index;
  each : (index : ℕ) (part : Pixel) (piece : Piece) → slice_get l.left index ≡ Some part → slice_get l.pieces.items index ≡ Some piece → IsPiece l.right index part piece;
  stands : (index : ℕ) (part : Pixel) → l.index ≤ index → slice_get l.left index ≡ Some part → HasWalkedTo l.right part l.walked;
}
