-- The partitions of one catalogue, each with those of another that overlap it.
use Rattle.std.specs.Prelude.{◌≡◌, ◌<◌, ◌≤◌, ℕ, List, Some, length, slice_get}
use Rattle.std.specs.List.{AllWithin}
use Rattle.hx_base.specs.Pixels.{end_position, first_position}
use Rattle.hx_base.specs.declared.pixel.Pixel.{Pixel}
use Rattle.hx_ptree.specs.Searches.{IsSpan}
use Rattle.hx_ptree.specs.declared.walk.Piece.{Piece}
use Rattle.hx_ptree.specs.declared.walk.Walked.{Walked}

-- so many of some disjoint pixels in order, from the front on, end at or before a pixel's first position, and so many begin before its end
pub record HasWalkedTo (parts : List Pixel) (pixel : Pixel) (walked : Walked) : Type 0 where
  pub ended_within : walked.ended ≤ length parts
  pub begun_within : walked.begun ≤ length parts
  pub ended : AllWithin (λ part. end_position part ≤ first_position pixel) parts 0 walked.ended
  pub begun : AllWithin (λ part. first_position part < end_position pixel) parts 0 walked.begun

-- a piece is that of a left partition: it names its number, and the right partitions that overlap it
pub record IsPiece (right : List Pixel) (number : ℕ) (part : Pixel) (piece : Piece) : Type 0 where
  pub named : piece.left ≡ number
  pub span : IsSpan right part piece.first piece.count

-- one piece for each left partition, in their order
pub record ArePieces (left right : List Pixel) (pieces : List Piece) : Type 0 where
  pub count : length pieces ≡ length left
  pub each : (index : ℕ) (part : Pixel) (piece : Piece) → slice_get left index ≡ Some part → slice_get pieces index ≡ Some piece → IsPiece right index part piece
