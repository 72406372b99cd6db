-- The footer of a Parquet file, or the first refusal.
-- A file is PAR1, pages, the footer, the footer's length in four bytes, and PAR1.
use Rattle.std.specs.Prelude.{ℕ, ℤ, pos, ◌+◌, ◌-◌, ◌+ℤ◌, List, [], ◌∷◌, length, take, drop, map, Bool, false, ◌&&◌, ◌||◌, not, nat_eq, nat_le, int_le, int_lt, Option, Some, None, Result, Ok, Err, if◌then◌else◌}
use Rattle.std.specs.Int.{w32, from_le_bytes}
use Rattle.std.specs.List.{starts_with, ends_with, list_any, list_all}
use Rattle.std.specs.Ordering.{int_eq}
use Rattle.hx_thrift.specs.Texts.{Text, ◌>>=◌}
use Rattle.hx_thrift.specs.Reading.{value_at, struct_at}
use Rattle.hx_pqmeta.specs.declared.refusal.PqRefusal.{PqRefusal}
use Rattle.hx_pqmeta.specs.declared.refusal.PqRefusal.TheVariants.{NotParquet, Missing, Nested, Counts}
use Rattle.hx_pqmeta.specs.Records.{ElementFields, RowGroupFields, FileFields, LeafRecord, GroupRecord, FooterRecord}
use Rattle.hx_pqmeta.specs.Refusals.{placed, needed, each}
use Rattle.hx_pqmeta.specs.Enumerations.{required, optional}
use Rattle.hx_pqmeta.specs.Fields.{file_of}
use Rattle.hx_pqmeta.specs.Naturals.{natural}

-- PAR1
abbrev pub magic : List ℕ
magic = 80 ∷ 65 ∷ 82 ∷ 49 ∷ []

-- the footer's length, which stands before the last four bytes
abbrev pub footer_len : List ℕ → ℕ
footer_len file = from_le_bytes w32 (take 4 (drop (length file - 8) file))

-- whether the two marks and the length are there, and a footer of that length lies between the first mark and the length
abbrev pub is_parquet : List ℕ → Bool
is_parquet file = nat_le 12 (length file) && starts_with nat_eq file magic && ends_with nat_eq file magic && nat_le (footer_len file) (length file - 12)

-- the footer's bytes at their place
unfoldable pub footer_text : List ℕ → Result Text PqRefusal
footer_text file =
    if is_parquet file
    then Ok (record { at = length file - 8 - footer_len file; bytes = take (footer_len file) (drop (length file - 8 - footer_len file) file) })
    else Err NotParquet

-- The elements behind the root. A schema without a root is as if it were absent.
abbrev pub below_root : List ElementFields → Result (List ElementFields) PqRefusal
below_root [] = Err (Missing 102)
below_root (root ∷ elements) = Ok elements

unfoldable pub leaf_of : ElementFields → Result LeafRecord PqRefusal
leaf_of element = do
  repetition ← needed 203 element.repetition
  name ← needed 204 element.name
  Ok (record { kind = element.kind; repetition = repetition; name = name; children = element.children })

unfoldable pub group_of : RowGroupFields → Result GroupRecord PqRefusal
group_of fields = do
  chunks ← needed 301 fields.chunks
  rows ← needed 303 fields.rows
  Ok (record { rows = rows; chunks = chunks })

-- the footer that begins at start and has these fields, each of which has to be there
unfoldable pub footer_of : (start : ℕ) → FileFields → Result FooterRecord PqRefusal
footer_of start fields = do
  schema ← needed 102 fields.schema
  elements ← below_root schema
  rows ← needed 103 fields.rows
  row_groups ← needed 104 fields.groups
  leaves ← each leaf_of elements
  groups ← each group_of row_groups
  Ok (record { start = start; rows = rows; leaves = leaves; groups = groups })

abbrev pub is_above_zero : Option ℤ → Bool
is_above_zero None = false
is_above_zero (Some n) = int_lt (pos 0) n

-- a leaf with children, or one that is neither REQUIRED nor OPTIONAL
abbrev pub is_nested : LeafRecord → Bool
is_nested leaf = is_above_zero leaf.children || not (int_eq leaf.repetition required || int_eq leaf.repetition optional)

abbrev pub sum_of : List ℤ → ℤ
sum_of [] = pos 0
sum_of (n ∷ ns) = n +ℤ sum_of ns

-- counts of rows that aren't negative and sum to that of the file
abbrev pub are_counts : (rows : ℤ) → List ℤ → Bool
are_counts rows counts = int_le (pos 0) rows && list_all (λ count. int_le (pos 0) count) counts && int_eq (sum_of counts) rows

-- how many rows groups have
abbrev pub rows_of : List GroupRecord → ℕ
rows_of [] = 0
rows_of (group ∷ groups) = natural group.rows + rows_of groups

-- the footer of a flat table whose rows are counted right
unfoldable pub sound : FooterRecord → Result FooterRecord PqRefusal
sound footer =
    if list_any is_nested footer.leaves then Err Nested
    else if are_counts footer.rows (map (λ group. group.rows) footer.groups) then Ok footer
    else Err Counts

-- the footer that a text begins with
unfoldable pub footer_at : Text → Result FooterRecord PqRefusal
footer_at text = do
  meta ← placed (struct_at (value_at 31) text)
  footer ← footer_of text.at (file_of meta.0)
  sound footer

-- the footer of a whole file
unfoldable pub footer_in : List ℕ → Result FooterRecord PqRefusal
footer_in file = do
  text ← footer_text file
  footer_at text
