-- Partitions: the pixels into which a catalogue is cut, by how many rows each contains.
use Rattle.std.specs.Prelude.{◌≡◌, ◌==◌, ◌*◌, ◌^◌, ◌<◌, ◌≤◌, ◌⊎◌, ◌↔◌, ℕ, List, AllPairs, Contains, filter}
use Rattle.hx_base.specs.declared.pixel.Pixel.{Pixel}
use Rattle.hx_base.specs.Pixels.{IsPixel, ancestor, pixel_of, first_position}

-- the pixel of the order before that a pixel lies in
abbrev pub parent : Pixel → Pixel
parent pixel = ancestor 1 pixel

-- a pixel is a partition where it has rows, no more than the threshold, and no larger pixel would do: its order is the lowest, or its parent has more
pub record IsPartition (count : Pixel → ℕ) (lowest highest threshold : ℕ) (pixel : Pixel) : Type 0 where
  pub exists : IsPixel pixel
  pub not_lower : lowest ≤ pixel.order
  pub not_higher : pixel.order ≤ highest
  pub some : 1 ≤ count pixel
  pub most : count pixel ≤ threshold
  pub largest : (pixel.order ≡ lowest) ⊎ (threshold < count (parent pixel))

-- the list of all partitions, by their first positions
pub record ArePartitions (count : Pixel → ℕ) (lowest highest threshold : ℕ) (pixels : List Pixel) : Type 0 where
  pub exact : (pixel : Pixel) → Contains pixels pixel ↔ IsPartition count lowest highest threshold pixel
  pub ordered : AllPairs (λ a b. first_position a < first_position b) pixels

-- a pixel of the highest order has more rows than the threshold, so it can't be cut further
pub record IsOverfull (count : Pixel → ℕ) (highest threshold number : ℕ) : Type 0 where
  pub exists : number < 12 * 4 ^ highest
  pub more : threshold < count (record { order = highest; number = number })

-- the least of them
pub record IsFirstOverfull (count : Pixel → ℕ) (highest threshold number : ℕ) : Type 0 where
  pub overfull : IsOverfull count highest threshold number
  pub first : (lower : ℕ) → lower < number → ¬ (IsOverfull count highest threshold lower)

abbrev pub NothingOverfull : (Pixel → ℕ) → ℕ → ℕ → Type 0
NothingOverfull count highest threshold = (number : ℕ) → ¬ (IsOverfull count highest threshold number)

-- the pixels of a list that hold a position
abbrev pub holders_of : ℕ → List Pixel → List Pixel
holders_of position pixels = filter (λ pixel. pixel_of pixel.order position == pixel.number) pixels
