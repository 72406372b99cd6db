-- Searches through a list of partitions: the one that holds a position, and those that overlap a pixel.
use Rattle.std.specs.Prelude.{◌≡◌, ◌+◌, ◌<◌, ◌≤◌, ◌⊎◌, ◌↔◌, ℕ, List, Option, Some, None, All, Contains, length, slice_get}
use Rattle.hx_base.specs.declared.pixel.Pixel.{Pixel}
use Rattle.hx_base.specs.Limits.{most_partitions}
use Rattle.hx_base.specs.Pixels.{AreDisjointInOrder, HoldsPosition, LiesIn, end_position, first_position}

-- what the partitions of a catalogue keep
pub record IsPartitionList (pixels : List Pixel) : Type 0 where
  pub most : length pixels ≤ most_partitions
  pub disjoint : AreDisjointInOrder pixels

-- the index of the partition that holds a position, or none where none holds it
abbrev pub IsHolder : List Pixel → ℕ → Option ℕ → Type 0
IsHolder pixels position (Some index) = (part : Pixel) × (slice_get pixels index ≡ Some part) × HoldsPosition part position
IsHolder pixels position None = All (λ part. ¬ (HoldsPosition part position)) pixels

-- the partition that holds a position, or none where none holds it
abbrev pub IsHolding : List Pixel → ℕ → Option Pixel → Type 0
IsHolding pixels position (Some part) = Contains pixels part × HoldsPosition part position
IsHolding pixels position None = All (λ part. ¬ (HoldsPosition part position)) pixels

-- one of two pixels lies in the other
abbrev pub Overlaps : Pixel → Pixel → Type 0
Overlaps a b = LiesIn a b ⊎ LiesIn b a

-- `count` partitions overlap a pixel, from index `first` on; those below `first` are the ones that end at or before its first position
pub record IsSpan (pixels : List Pixel) (pixel : Pixel) (first count : ℕ) : Type 0 where
  pub within : first + count ≤ length pixels
  pub before : (index : ℕ) (part : Pixel) → slice_get pixels index ≡ Some part → (index < first) ↔ (end_position part ≤ first_position pixel)
  pub overlapping : (index : ℕ) (part : Pixel) → slice_get pixels index ≡ Some part → ((first ≤ index) × (index < first + count)) ↔ Overlaps part pixel

-- what holds of two members of a list holds of all between them
abbrev pub AreConsecutive : (Pixel → Type 0) → List Pixel → Type 0
AreConsecutive P pixels = (i j k : ℕ) (a b c : Pixel) → i ≤ j → j ≤ k
    → slice_get pixels i ≡ Some a → slice_get pixels j ≡ Some b → slice_get pixels k ≡ Some c → P a → P c → P b
