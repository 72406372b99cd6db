-- The partitions around a partition: those that may have rows of its margin.
use Rattle.std.specs.Prelude.{◌≡◌, ◌↔◌, ◌<◌, ℕ, List, Some, AllPairs, Contains, slice_get}
use Rattle.hx_base.specs.declared.pixel.Pixel.{Pixel}
use Rattle.hx_base.specs.Touching.{Touch}
use Rattle.hx_ptree.specs.Searches.{Overlaps}

-- a pixel overlaps one that touches a partition, at the partition's own order
pub record IsAround (part other : Pixel) : Type 0 where
  pub neighbour : ℕ
  pub touches : Touch part.order part.number neighbour
  pub overlaps : Overlaps other (record { order = part.order; number = neighbour })

-- the partition of a number is around one
pub record IsAroundAt (parts : List Pixel) (part : Pixel) (number : ℕ) : Type 0 where
  pub other : Pixel
  pub there : slice_get parts number ≡ Some other
  pub around : IsAround part other

-- the numbers of all partitions around one, ascending: so none stands twice, however many neighbours it overlaps
pub record AreAround (parts : List Pixel) (part : Pixel) (numbers : List ℕ) : Type 0 where
  pub members : (number : ℕ) → Contains numbers number ↔ IsAroundAt parts part number
  pub ascending : AllPairs (λ a b. a < b) numbers
