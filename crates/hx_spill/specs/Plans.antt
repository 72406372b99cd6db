-- The file of a plan task: partitions.
use Rattle.std.specs.Prelude.{◌≡◌, ◌≤◌, ◌&&◌, ◌+◌, ◌*◌, ◌^◌, ◌++◌, ℕ, nat_le, nat_lt, List, All, AllPairs, length, codes, Ok, Bool}
use Rattle.std.specs.List.{flat_map, list_all}
use Rattle.byteorder.specs.Endian.{little_bytes}
use Rattle.hx_base.specs.Columns.{◌>>=◌}
use Rattle.hx_base.specs.Limits.{highest_order, most_in_partition, most_partitions}
use Rattle.hx_base.specs.Pixels.{IsPixel, end_position, first_position}
use Rattle.hx_align.specs.Plans.{IsPlanRow, pixels_of}
use Rattle.hx_align.specs.declared.plan.PlanRow.{PlanRow}
use Rattle.hx_spill.specs.Items.{Read, each, ended, mark, number}

-- the mark and the number of rows u64; then order u32, pixel u64 and count u64 of each
abbrev pub head_width : ℕ
head_width = 12

abbrev pub row_width : ℕ
row_width = 20

abbrev pub place_of_row : ℕ → ℕ
place_of_row index = head_width + row_width * index

-- a partition's pixel whose first position may come, and its count
unfoldable pub row_at : (keeps : ℕ → Bool) → (place : ℕ) → List ℕ → Read PlanRow
row_at keeps place bytes = do
  order ← number 4 (λ k. nat_le k highest_order) place bytes
  pixel ← number 8 (λ p. nat_lt p (12 * 4 ^ order) && keeps (first_position (record { order = order; number = p }))) (place + 4) bytes
  count ← number 8 (λ n. nat_le 1 n && nat_le n most_in_partition) (place + 12) bytes
  Ok (record { pixel = record { order = order; number = pixel }; count = count })

-- each pixel before it ends at or before its first position
abbrev pub row_behind : List ℕ → List PlanRow → Read PlanRow
row_behind bytes before = row_at (λ position. list_all (λ other. nat_le (end_position other.pixel) position) before) (place_of_row (length before)) bytes

unfoldable pub plan_in : List ℕ → Read (List PlanRow)
plan_in bytes = do
  _ ← mark (codes "HXP1") bytes
  n ← number 8 (λ n. nat_le n most_partitions) 4 bytes
  rows ← each n (row_behind bytes)
  _ ← ended (place_of_row n) bytes
  Ok rows

-- the bytes of a plan
abbrev pub bytes_of_row : PlanRow → List ℕ
bytes_of_row row = little_bytes 4 row.pixel.order ++ little_bytes 8 row.pixel.number ++ little_bytes 8 row.count

abbrev pub head_of_plan : List PlanRow → List ℕ
head_of_plan rows = codes "HXP1" ++ little_bytes 8 (length rows)

abbrev pub bytes_of_plan : List PlanRow → List ℕ
bytes_of_plan rows = head_of_plan rows ++ flat_map bytes_of_row rows

-- rows that were read, so many, are rows of a plan
pub record HaveRead (n : ℕ) (bytes : List ℕ) (rows : List PlanRow) (at : ℕ) : Type 0 where
  pub read : each n (row_behind bytes) ≡ Ok rows
  pub exist : All IsPixel (pixels_of rows)
  pub ascend : AllPairs (λ a b. end_position a ≤ first_position b) (pixels_of rows)
  pub rows_fit : All IsPlanRow rows
  pub place : at ≡ place_of_row n
  pub within : at ≤ length bytes
