-- The file of a split task: good rows by the partitions that contain them. That of a margin split task has the partitions whose margins
-- the rows belong to.
use Rattle.std.specs.Prelude.{◌≡◌, ◌<◌, ◌≤◌, ◌==◌, ◌&&◌, ◌+◌, ◌*◌, ◌^◌, ◌++◌, ◌∷◌, [], ℕ, nat_le, nat_lt, Bool, true, List, length, map, filter, take, drop, slice_index_or, codes, ⊤, Option, Some, None, Ok, sum_by, AllPairs, FitsSigned}
use Rattle.std.specs.List.{find, flat_map, list_all}
use Rattle.std.specs.Option.{option_map}
use Rattle.std.specs.Int.{w32, w64, cast_signed, cast_unsigned}
use Rattle.std.specs.Ordering.{is_le, nat_cmp, ordering_then}
use Rattle.std.specs.declared.cmp.Ordering.{Ordering}
use Rattle.byteorder.specs.Endian.{little_bytes, little_number}
use Rattle.hx_base.specs.Columns.{◌>>=◌}
use Rattle.hx_base.specs.Rows.{row_cmp, squared_length, tolerance, unit}
use Rattle.hx_base.specs.declared.row.Row.{Row}
use Rattle.hx_spill.specs.Items.{Read, each, ended, item, mark, number}
use Rattle.hx_spill.specs.declared.split.head.Entry.{Entry}
use Rattle.hx_spill.specs.declared.split.head.Head.{Head}
use Rattle.hx_spill.specs.declared.split.Placed.{Placed}
use Rattle.hx_spill.specs.declared.split.SlicePlace.{SlicePlace}

-- the mark and the number of entries u64; then part u32, first u64 and rows u64 of each; then the rows
abbrev pub entries_place : ℕ
entries_place = 12

abbrev pub entry_width : ℕ
entry_width = 20

abbrev pub row_width : ℕ
row_width = 28

abbrev pub place_of_entry : ℕ → ℕ
place_of_entry index = entries_place + entry_width * index

-- the place of a row behind so many, in a file of n entries
abbrev pub place_of_row : (n : ℕ) → ℕ → ℕ
place_of_row n before = place_of_entry n + row_width * before

-- how many rows entries have
abbrev pub rows_of : List Entry → ℕ
rows_of entries = sum_by (λ entry. entry.rows) entries

-- a part that may come, how many rows are before its rows, and how many these are: one at least, which end below 2 ^ 64 bytes
unfoldable pub entry_at : (keeps : ℕ → Bool) → (n : ℕ) → (before : ℕ) → (place : ℕ) → List ℕ → Read Entry
entry_at keeps n before place bytes = do
  part ← number 4 keeps place bytes
  first ← number 8 (λ k. k == before) (place + 4) bytes
  rows ← number 8 (λ k. nat_lt 0 k && nat_lt (place_of_row n (before + k)) (2 ^ 64)) (place + 12) bytes
  Ok (record { part = part; first = first; rows = rows })

abbrev pub entry_behind : (n : ℕ) → List ℕ → List Entry → Read Entry
entry_behind n bytes before = entry_at (λ part. list_all (λ other. nat_lt other.part part) before) n (rows_of before) (place_of_entry (length before)) bytes

unfoldable pub head_in : List ℕ → Read (List Entry)
head_in bytes = do
  _ ← mark (codes "HXS1") bytes
  n ← number 8 (λ _. true) 4 bytes
  each n (entry_behind n bytes)

-- how many rows a head tells
unfoldable pub rows_in_head : List ℕ → Read ℕ
rows_in_head bytes = head_in bytes >>= λ entries. Ok (rows_of entries)

-- the entry of a part
abbrev pub entry_of : ℕ → List Entry → Option Entry
entry_of part entries = find (λ entry. entry.part == part) entries

-- what a search of a head finds
abbrev pub found_in : ℕ → List Entry → Head
found_in part entries = record { entries = length entries; rows = rows_of entries; found = entry_of part entries }

abbrev pub search_entries : (part : ℕ) → (n : ℕ) → List ℕ → Read Head
search_entries part n bytes = each n (entry_behind n bytes) >>= λ entries. Ok (found_in part entries)

abbrev pub search_head : (part : ℕ) → List ℕ → Read Head
search_head part bytes = head_in bytes >>= λ entries. Ok (found_in part entries)

-- a row is hp u64, id i64, x i32, y i32 and z i32
abbrev pub row_from : List ℕ → Row
row_from bytes = record {
  hp = little_number 8 bytes;
  id = cast_signed w64 (little_number 8 (drop 8 bytes));
  x = cast_signed w32 (little_number 4 (drop 16 bytes));
  y = cast_signed w32 (little_number 4 (drop 20 bytes));
  z = cast_signed w32 (little_number 4 (drop 24 bytes));
}

-- the test of a good row
abbrev pub is_good : Row → Bool
is_good row = nat_lt row.hp (12 * 4 ^ 29) && (nat_le (squared_length row) (unit + tolerance) && nat_le unit (squared_length row + tolerance))

unfoldable pub row_at : (keeps : Row → Bool) → (place : ℕ) → List ℕ → Read Row
row_at keeps place bytes = item row_width row_from (λ row. is_good row && keeps row) place bytes

-- a row of a part whose rows begin at a place: none before it is above it
abbrev pub row_behind : (start : ℕ) → List ℕ → List Row → Read Row
row_behind start bytes before = row_at (λ row. list_all (λ other. is_le (row_cmp other row)) before) (start + row_width * length before) bytes

-- a row that may follow the last
abbrev pub may_follow : Option Row → Row → Bool
may_follow None row = true
may_follow (Some last) row = is_le (row_cmp last row)

-- the rows of an entry
abbrev pub slice_in : (n : ℕ) → List ℕ → Entry → Read (List Row)
slice_in n bytes entry = each entry.rows (row_behind (place_of_row n entry.first) bytes)

abbrev pub placed_at : ℕ → Row → Placed
placed_at part row = record { part = part; row = row }

-- the rows of the entries, one part after another
abbrev pub placed_in : (n : ℕ) → List ℕ → List Entry → Read (List Placed)
placed_in n bytes [] = Ok []
placed_in n bytes (entry ∷ entries) = slice_in n bytes entry >>= λ rows. placed_in n bytes entries >>= λ more. Ok (map (placed_at entry.part) rows ++ more)

-- rows that are looked at alone
abbrev pub looked_at : {X : Type 0} → Read X → Read ⊤
looked_at read = read >>= λ _. Ok tt

abbrev pub rows_looked_at : List ℕ → Read ⊤
rows_looked_at bytes = head_in bytes >>= λ entries. looked_at (placed_in (length entries) bytes entries)

-- n entries stand in bytes; and bytes begin with a head of n entries
pub record HasEntries (n : ℕ) (bytes : List ℕ) : Type 0 where
  pub entries : List Entry
  pub read : each n (entry_behind n bytes) ≡ Ok entries
  pub within : place_of_entry n ≤ length bytes

pub record IsHead (n : ℕ) (bytes : List ℕ) : Type 0 where
  pub entries : List Entry
  pub head : head_in bytes ≡ Ok entries
  pub read : each n (entry_behind n bytes) ≡ Ok entries
  pub within : place_of_entry n ≤ length bytes

unfoldable pub split_in : List ℕ → Read (List Placed)
split_in bytes = do
  entries ← head_in bytes
  placed ← placed_in (length entries) bytes entries
  _ ← ended (place_of_row (length entries) (rows_of entries)) bytes
  Ok placed

-- the rows of a part
abbrev pub slice : ℕ → List Placed → List Row
slice part placed = map (λ p. p.row) (filter (λ p. p.part == part) placed)

-- what a reader of one part reads
abbrev pub slice_read : ℕ → List ℕ → Read (List Row)
slice_read part bytes = split_in bytes >>= λ placed. Ok (slice part placed)

-- where they stand in the file, by a head that ends with its last entry
abbrev pub place_of : (n : ℕ) → Entry → SlicePlace
place_of n entry = record { at = place_of_row n entry.first; rows = entry.rows }

unfoldable pub slice_place : ℕ → List ℕ → Read (Option SlicePlace)
slice_place part bytes = do
  entries ← head_in bytes
  _ ← ended (place_of_entry (length entries)) bytes
  Ok (option_map (place_of (length entries)) (entry_of part entries))

-- by part, and then as rows are
abbrev pub placed_cmp : Placed → Placed → Ordering
placed_cmp a b = ordering_then (nat_cmp a.part b.part) (row_cmp a.row b.row)

-- the bytes of a split file's head and rows
abbrev pub bytes_of_entry : Entry → List ℕ
bytes_of_entry entry = little_bytes 4 entry.part ++ little_bytes 8 entry.first ++ little_bytes 8 entry.rows

abbrev pub head_of_split : List Entry → List ℕ
head_of_split entries = codes "HXS1" ++ little_bytes 8 (length entries)

abbrev pub bytes_of_row : Row → List ℕ
bytes_of_row row =
    little_bytes 8 row.hp ++ little_bytes 8 (cast_unsigned w64 row.id)
    ++ little_bytes 4 (cast_unsigned w32 row.x) ++ little_bytes 4 (cast_unsigned w32 row.y) ++ little_bytes 4 (cast_unsigned w32 row.z)

abbrev pub bytes_of_rows : List Placed → List ℕ
bytes_of_rows placed = flat_map (λ p. bytes_of_row p.row) placed

-- entries tell rows one part after another, behind so many
abbrev pub Tell : (first : ℕ) → List Entry → List Placed → Type 0
Tell first [] placed = placed ≡ []
Tell first (entry ∷ entries) placed =
    (entry.first ≡ first) × (0 < entry.rows) × (rows : List Row) × (rest : List Placed) × (placed ≡ map (placed_at entry.part) rows ++ rest) × (length rows ≡ entry.rows)
    × Tell (first + entry.rows) entries rest

pub record AreEntries (entries : List Entry) (placed : List Placed) : Type 0 where
  pub tell : Tell 0 entries placed
  pub ascend : AllPairs (λ a b. a.part < b.part) entries

-- a row's numbers have room in their bytes
pub record RowFits (row : Row) : Type 0 where
  pub hp : row.hp < 2 ^ 64
  pub id : FitsSigned w64 row.id
  pub x : FitsSigned w32 row.x
  pub y : FitsSigned w32 row.y
  pub z : FitsSigned w32 row.z

-- the rows that stand at a place of a file
pub record Stand (place : SlicePlace) (bytes : List ℕ) (rows : List Row) : Type 0 where
  pub count : length rows ≡ place.rows
  pub each_row : (i : ℕ) (d : Row) → i < place.rows → slice_index_or rows i d ≡ row_from (drop (place.at + row_width * i) bytes)

-- what a head tells of a part's rows: where they stand, or that there are none
abbrev pub IsTold : List ℕ → List Row → Option SlicePlace → Type 0
IsTold bytes rows None = rows ≡ []
IsTold bytes rows (Some place) = Stand place bytes rows

-- a file begins with a head that tells of each part where its rows stand
pub record HasHead (bytes : List ℕ) (placed : List Placed) : Type 0 where
  pub n : ℕ
  pub within : place_of_entry n ≤ length bytes
  pub tells : (part : ℕ) → (found : Option SlicePlace) × (slice_place part (take (place_of_entry n) bytes) ≡ Ok found) × IsTold bytes (slice part placed) found
