-- The partitions beside a pixel of the margin order: those whose margins have the pixel's rows.
use Rattle.std.specs.Prelude.{◌≡◌, ◌≢◌, ◌↔◌, ℕ, List, Some, AllPairs, Contains, Option, IfSome, slice_get}
use Rattle.hx_base.specs.declared.pixel.Pixel.{Pixel}
use Rattle.hx_base.specs.Pixels.{LiesIn}
use Rattle.hx_base.specs.Touching.{Touch}

-- a pixel of the margin order
abbrev pub margin_pixel : ℕ → ℕ → Pixel
margin_pixel margin_order number = record { order = margin_order; number = number }

-- a pixel of the margin order doesn't lie in a partition, but touches one that does
pub record IsBeside (part : Pixel) (margin_order number : ℕ) : Type 0 where
  pub outside : ¬ (LiesIn (margin_pixel margin_order number) part)
  pub edge : ℕ
  pub inside : LiesIn (margin_pixel margin_order edge) part
  pub touches : Touch margin_order number edge

-- it is beside the partition of an index
pub record IsBesideAt (parts : List Pixel) (margin_order number index : ℕ) : Type 0 where
  pub part : Pixel
  pub there : slice_get parts index ≡ Some part
  pub beside : IsBeside part margin_order number

-- the indices of all partitions that it is beside, each once
pub record AreBeside (parts : List Pixel) (margin_order number : ℕ) (indices : List ℕ) : Type 0 where
  pub members : (index : ℕ) → Contains indices index ↔ IsBesideAt parts margin_order number index
  pub once : AllPairs (λ a b. a ≢ b) indices

-- what is known of the pixel that was looked at last, if any was
abbrev pub AreBesideLast : List Pixel → ℕ → Option ℕ → List ℕ → Type 0
AreBesideLast parts margin_order last indices = IfSome last (λ number. AreBeside parts margin_order number indices)
