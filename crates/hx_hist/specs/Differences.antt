-- The first pixel that two histograms count differently.
use Rattle.std.specs.Prelude.{◌≡◌, ◌≢◌, ◌<◌, ◌≤◌, ◌⊎◌, ℕ, List, length, slice_index_or}
use Rattle.std.specs.List.{AllWithin}
use Rattle.hx_hist.specs.declared.hist.Pair.{Pair}
use Rattle.hx_hist.specs.declared.hist.difference.Difference.{Difference}
use Rattle.hx_hist.specs.Histograms.{count_at}

-- the least pixel at which the counts differ, with both counts
pub record IsFirstDifference (kept found : List Pair) (difference : Difference) : Type 0 where
  pub kept_count : difference.kept ≡ count_at difference.pixel kept
  pub found_count : difference.found ≡ count_at difference.pixel found
  pub differ : difference.kept ≢ difference.found
  pub first : (p : ℕ) → p < difference.pixel → count_at p kept ≡ count_at p found

-- a pixel has the pair at an index
pub record StandsAt (pixel index : ℕ) (pairs : List Pair) : Type 0 where
  pub within : index < length pairs
  pub pixel_is : (d : Pair) → (slice_index_or pairs index d).pixel ≡ pixel

-- the least pixel of two lists from an index on
pub record IsLeastFrom (index : ℕ) (kept found : List Pair) (pixel : ℕ) : Type 0 where
  pub least_kept : AllWithin (λ pair. pixel ≤ pair.pixel) kept index (length kept)
  pub least_found : AllWithin (λ pair. pixel ≤ pair.pixel) found index (length found)
  pub stands : StandsAt pixel index kept ⊎ StandsAt pixel index found
