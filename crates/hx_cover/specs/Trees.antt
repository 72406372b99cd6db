-- Boxes round runs of boxes, and what a search along the right boxes has passed over.
use Rattle.std.specs.Prelude.{◌≡◌, ◌/◌, ◌^◌, ◌<◌, ◌≤◌, ◌⊎◌, ℕ, List, Some, All, slice_get}
use Rattle.hx_base.specs.declared.pixel.Pixel.{Pixel}
use Rattle.hx_base.specs.Boxes.{gap2_of}
use Rattle.hx_cover.specs.Bounds.{IsInside}
use Rattle.hx_base.specs.Coverage.{AreNear}
use Rattle.hx_cover.specs.CoverBoxes.{IsSound, box_seen}
use Rattle.hx_cover.specs.declared.bounds.CoverBox.{CoverBox}
use Rattle.hx_cover.specs.declared.trees.Level.{Level}

-- the box in a list under an index has a box round it
pub record HasRound (boxes : List CoverBox) (index : ℕ) (under : CoverBox) : Type 0 where
  pub node : CoverBox
  pub there : slice_get boxes index ≡ Some node
  pub round : IsInside (box_seen under) (box_seen node)

-- each box lies in the one over its run of `width`
abbrev pub AreOver : List CoverBox → ℕ → List CoverBox → Type 0
AreOver unders width boxes = (i : ℕ) (under : CoverBox) → slice_get unders i ≡ Some under → HasRound boxes (i / width) under

-- a box round each run of a width
pub record IsLevel (right : List CoverBox) (level : Level) : Type 0 where
  pub shift : level.shift < 64
  pub width : level.width ≡ 2 ^ level.shift
  pub sound : All IsSound level.boxes.items
  pub over : AreOver right level.width level.boxes.items

-- the right boxes from an index up to another are further than the radius from a box
abbrev pub AreFar : CoverBox → ℕ → List CoverBox → ℕ → ℕ → Type 0
AreFar seen r2 right from to = (i : ℕ) (b : CoverBox) → from ≤ i → i < to → slice_get right i ≡ Some b → r2 < gap2_of (box_seen seen) (box_seen b)

-- the same, but for those from index `first` up to `end`
abbrev pub AreFarOrIn : CoverBox → ℕ → List CoverBox → ℕ → ℕ → ℕ → ℕ → Type 0
AreFarOrIn seen r2 right first end from to =
    (i : ℕ) (b : CoverBox) → from ≤ i → i < to → slice_get right i ≡ Some b → ((first ≤ i) × (i < end)) ⊎ (r2 < gap2_of (box_seen seen) (box_seen b))

-- the pixels of the right boxes from index `first` up to `end` are near to all pixels from p to q
abbrev pub AreAllNear : List Pixel → ℕ → List CoverBox → ℕ → ℕ → ℕ → ℕ → Type 0
AreAllNear parts margin_order right first end p q =
    (i : ℕ) (b : CoverBox) → first ≤ i → i < end → slice_get right i ≡ Some b → (n : ℕ) → p ≤ n → n ≤ q → AreNear parts margin_order n b.pixel
