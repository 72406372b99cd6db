-- The nearest of some rows to a row, within a radius. r2 is the square of the radius.
use Rattle.std.specs.Prelude.{◌≡◌, ◌<◌, ◌≤◌, ℕ, List, All, Contains, Option, Some, None}
use Rattle.std.specs.Ordering.{nat_cmp, int_cmp, ordering_then}
use Rattle.std.specs.declared.cmp.Ordering.{Ordering}
use Rattle.std.specs.declared.cmp.Ordering.TheVariants.{Less, Equal, Greater}
use Rattle.hx_base.specs.declared.row.Row.{Row}
use Rattle.hx_base.specs.Chords.{chord2_of}
use Rattle.hx_base.specs.Rows.{row_cmp}

-- of rows that are as far: by id, then as rows are ordered, so by position and the vector's coordinates
abbrev pub tie_cmp : Row → Row → Ordering
tie_cmp a b = ordering_then (int_cmp a.id b.id) (row_cmp a b)

-- by the squared chord from a row, then as rows that are as far
abbrev pub match_cmp : Row → Row → Row → Ordering
match_cmp from a b = ordering_then (nat_cmp (chord2_of from a) (chord2_of from b)) (tie_cmp a b)

-- a row of the list within the radius, and no other of these comes before it
pub record IsLeastWithin (from : Row) (r2 : ℕ) (rows : List Row) (best : Row) : Type 0 where
  pub stands : Contains rows best
  pub within : chord2_of from best ≤ r2
  pub least : All (λ row. chord2_of from row ≤ r2 → ¬ (match_cmp from row best ≡ Less)) rows

-- the match of a row over a whole list: none, where no row is within the radius
abbrev pub IsNearest : Row → ℕ → List Row → Option Row → Type 0
IsNearest from r2 rows None = All (λ row. r2 < chord2_of from row) rows
IsNearest from r2 rows (Some best) = IsLeastWithin from r2 rows best

-- lists that have the same rows within the radius
pub record SameWithin (from : Row) (r2 : ℕ) (rows others : List Row) : Type 0 where
  pub there : (row : Row) → Contains rows row → chord2_of from row ≤ r2 → Contains others row
  pub back : (row : Row) → Contains others row → chord2_of from row ≤ r2 → Contains rows row

-- the second where it comes before the first, else the first
abbrev pub second_if_less : Ordering → Row → Row → Row
second_if_less Less best other = other
second_if_less Equal best other = best
second_if_less Greater best other = best

-- the better of two matches
abbrev pub nearer_of : Row → Option Row → Option Row → Option Row
nearer_of from None other = other
nearer_of from (Some best) None = Some best
nearer_of from (Some best) (Some other) = Some (second_if_less (match_cmp from other best) best other)
