-- Pixels away from the edge of a larger pixel in which they lie.
use Rattle.std.specs.Prelude.{◌+◌, ◌%◌, ◌^◌, ◌<◌, ℕ}
use Rattle.hx_base.specs.Touching.{IsAt}

-- a coordinate is neither the first nor the last of its block of 2 ^ steps
pub record IsInBlock (steps x : ℕ) : Type 0 where
  pub not_first : 0 < x % 2 ^ steps
  pub not_last : x % 2 ^ steps + 1 < 2 ^ steps

-- neither coordinate of a pixel is at an end of the pixel so many orders up in which it lies
pub record IsInner (order steps pixel : ℕ) : Type 0 where
  pub face : ℕ
  pub x : ℕ
  pub y : ℕ
  pub at : IsAt order pixel face x y
  pub along_x : IsInBlock steps x
  pub along_y : IsInBlock steps y
