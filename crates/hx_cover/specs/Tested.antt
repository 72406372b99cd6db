-- Lists of boxes that the coverage test takes, and how it tells that one partition contains two pixels.
use Rattle.std.specs.Prelude.{◌*◌, ◌^◌, ◌<◌, ℕ, List, All, AllPairs, Contains}
use Rattle.hx_base.specs.declared.pixel.Pixel.{Pixel}
use Rattle.hx_base.specs.Pixels.{HoldsPosition}
use Rattle.hx_cover.specs.CoverBoxes.{IsSound}
use Rattle.hx_cover.specs.declared.bounds.CoverBox.{CoverBox}

-- a sound box of a pixel of an order
pub record IsCoverBox (order : ℕ) (seen : CoverBox) : Type 0 where
  pub sound : IsSound seen
  pub pixel : seen.pixel < 12 * 4 ^ order

-- such boxes, ascending by their pixels
pub record AreCoverBoxes (order : ℕ) (boxes : List CoverBox) : Type 0 where
  pub each : All (IsCoverBox order) boxes
  pub ordered : AllPairs (λ a b. a.pixel < b.pixel) boxes

-- one partition holds both positions
pub record HaveOneHolder (parts : List Pixel) (a b : ℕ) : Type 0 where
  pub part : Pixel
  pub member : Contains parts part
  pub first : HoldsPosition part a
  pub second : HoldsPosition part b
