-- The file of a map task: a histogram.
use Rattle.std.specs.Prelude.{◌≡◌, ◌<◌, ◌≤◌, ◌==◌, ◌&&◌, ◌+◌, ◌*◌, ◌^◌, ◌++◌, ℕ, nat_le, nat_lt, List, length, codes, Option, Some, None, Ok, true, Bool}
use Rattle.std.specs.List.{flat_map, list_all}
use Rattle.byteorder.specs.Endian.{little_bytes}
use Rattle.hx_base.specs.Columns.{◌>>=◌}
use Rattle.hx_base.specs.Limits.{most_rows}
use Rattle.hx_hist.specs.Histograms.{Histogram, total_of}
use Rattle.hx_hist.specs.declared.hist.Pair.{Pair}
use Rattle.hx_spill.specs.Items.{Read, each, ended, kept, mark, number}

-- the mark, order u32, rows u64 and the number of pairs u64; then pixel u64 and count u64 of each
abbrev pub head_width : ℕ
head_width = 24

abbrev pub pair_width : ℕ
pair_width = 16

abbrev pub rows_place : ℕ
rows_place = 8

abbrev pub place_of_pair : ℕ → ℕ
place_of_pair index = head_width + pair_width * index

-- a pixel of the order, above all before it, and a count above 0
unfoldable pub pair_at : (order : ℕ) → (keeps : ℕ → Bool) → (place : ℕ) → List ℕ → Read Pair
pair_at order keeps place bytes = do
  pixel ← number 8 (λ p. nat_lt p (12 * 4 ^ order) && keeps p) place bytes
  count ← number 8 (λ n. nat_lt 0 n) (place + 8) bytes
  Ok (record { pixel = pixel; count = count })

abbrev pub pair_behind : (order : ℕ) → List ℕ → List Pair → Read Pair
pair_behind order bytes before = pair_at order (λ p. list_all (λ other. nat_lt other.pixel p) before) (place_of_pair (length before)) bytes

-- the sum of the counts is looked at last
unfoldable pub map_in : List ℕ → Read Histogram
map_in bytes = do
  _ ← mark (codes "HXM1") bytes
  order ← number 4 (λ k. nat_le k 29) 4 bytes
  rows ← number 8 (λ n. nat_le n most_rows) rows_place bytes
  n ← number 8 (λ _. true) 16 bytes
  pairs ← each n (pair_behind order bytes)
  _ ← ended (place_of_pair n) bytes
  kept (total_of pairs == rows) (record { order = order; pairs = pairs }) rows_place

-- how many rows a map's head tells
unfoldable pub rows_in_head : List ℕ → Read ℕ
rows_in_head bytes = do
  _ ← mark (codes "HXM1") bytes
  _ ← number 4 (λ k. nat_le k 29) 4 bytes
  number 8 (λ n. nat_le n most_rows) rows_place bytes

-- the bytes of a map
abbrev pub bytes_of_pair : Pair → List ℕ
bytes_of_pair pair = little_bytes 8 pair.pixel ++ little_bytes 8 pair.count

abbrev pub head_of_map : Histogram → List ℕ
head_of_map hist = codes "HXM1" ++ little_bytes 4 hist.order ++ little_bytes 8 (total_of hist.pairs) ++ little_bytes 8 (length hist.pairs)

abbrev pub bytes_of_map : Histogram → List ℕ
bytes_of_map hist = head_of_map hist ++ flat_map bytes_of_pair hist.pairs

-- pairs as they are counted towards so many rows: kept while they are no more, with how many rows are left, and dropped after that
abbrev pub AreCounted : (rows : ℕ) → List Pair → (left : Option ℕ) → (kept : List Pair) → Type 0
AreCounted rows pairs (Some left) kept = (kept ≡ pairs) × (total_of pairs + left ≡ rows)
AreCounted rows pairs None kept = rows < total_of pairs

-- so many pairs were read and counted
pub record HaveRead (order rows n : ℕ) (bytes : List ℕ) (hist : Histogram) (left : Option ℕ) (at : ℕ) : Type 0 where
  pub pairs : List Pair
  pub read : each n (pair_behind order bytes) ≡ Ok pairs
  pub counted : AreCounted rows pairs left hist.pairs
  pub order_is : hist.order ≡ order
  pub place : at ≡ place_of_pair n
  pub within : at ≤ length bytes
