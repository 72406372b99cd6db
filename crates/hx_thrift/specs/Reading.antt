-- Reading Apache Thrift's compact protocol: what stands at the front of a text, or the first refusal, with the place of the first byte of the item that it names.
-- A size, length, id or number is named by its own first byte, a binary that is cut short by its length, and a container by the first byte of its body.
use Rattle.std.specs.Prelude.{ℕ, zero, suc, ◌+◌, ◌*◌, ◌/◌, ◌%◌, ◌^◌, ℤ, pos, ◌+ℤ◌, List, [], ◌∷◌, length, take, drop, ◌&&◌, Option, Some, None, Ok, Err, nat_lt, nat_le, ◌==◌, if◌then◌else◌}
use Rattle.hx_thrift.specs.declared.header.Field.{Field}
use Rattle.hx_thrift.specs.declared.header.ListHead.{ListHead}
use Rattle.hx_thrift.specs.declared.refusal.ThriftRefusal.TheVariants.{Short, BadType, TooDeep, Overlong}
use Rattle.hx_thrift.specs.Texts.{Text, Read, ◌>>=◌, read_as}
use Rattle.hx_thrift.specs.Kinds.{is_kind, part_kind, max_size, is_id, unzigzag, max_zigzag}
use Rattle.hx_thrift.specs.Values.{Leaf, number, binary, fixed, Entry, Node, leaf, elements, pairs, entries, Value}

-- a byte of the item that begins at start
abbrev pub byte_at : ℕ → Text → Read ℕ
byte_at start text = elim text.bytes [
  | [] ↦ Err (Short start)
  | byte ∷ bytes ↦ Ok (byte, record { at = text.at + 1; bytes = bytes })
]

-- so many bytes of the item that begins at start
abbrev pub bytes_at : (start len : ℕ) → Text → Read (List ℕ)
bytes_at start len text =
    if nat_le len (length text.bytes)
    then Ok (take len text.bytes, record { at = text.at + len; bytes = drop len text.bytes })
    else Err (Short start)

-- groups of seven bits, at most so many, the least first: a byte below 128 is the last one
unfoldable pub groups_at : (start most : ℕ) → Text → Read ℕ
groups_at start zero text = Err (Overlong start)
groups_at start (suc most) text = do
  low ← byte_at start text
  if nat_lt low.0 128 then Ok low else read_as (λ high. low.0 % 128 + 128 * high) (groups_at start most low.1)

-- a varint: at most ten groups, and below 2^64
unfoldable pub varint_at : Text → Read ℕ
varint_at text = do
  n ← groups_at text.at 10 text
  if nat_lt n.0 (2 ^ 64) then Ok n else Err (Overlong text.at)

-- a varint up to most
unfoldable pub number_at : ℕ → Text → Read ℕ
number_at most text = do
  n ← varint_at text
  if nat_le n.0 most then Ok n else Err (Overlong text.at)

-- an i16, i32 or i64
unfoldable pub int_at : ℕ → Text → Read ℤ
int_at kind text = read_as unzigzag (number_at (max_zigzag kind) text)

-- a length, and so many bytes
unfoldable pub binary_at : Text → Read (List ℕ)
binary_at text = do
  len ← number_at max_size text
  bytes_at text.at len.0 len.1

-- the id that stands behind a header, as a varint
unfoldable pub own_id_at : Text → Read ℤ
own_id_at text = do
  n ← varint_at text
  if is_id (unzigzag n.0) then Ok (unzigzag n.0, n.1) else Err (Overlong text.at)

-- the id of the header at start: a step from the last one, where step 0 says that it follows
unfoldable pub id_at : (start : ℕ) → (last : ℤ) → (step : ℕ) → Text → Read ℤ
id_at start last step text =
    if step == 0 then own_id_at text
    else if is_id (last +ℤ pos step) then Ok (last +ℤ pos step, text)
    else Err (Overlong start)

-- A field's header behind the field with the id last, or the stop: a byte for step and kind, and the id where that follows.
unfoldable pub field_at : ℤ → Text → Read (Option Field)
field_at last text = do
  first ← byte_at text.at text
  if first.0 == 0 then Ok (None, first.1) else
      if is_kind (first.0 % 16)
      then read_as (λ id. Some (record { id = id; kind = first.0 % 16 })) (id_at text.at last (first.0 / 16) first.1)
      else Err (BadType text.at)

-- the size of a list or set, where 15 says that it follows
abbrev pub size_at : ℕ → Text → Read ℕ
size_at short text = if short == 15 then number_at max_size text else Ok (short, text)

-- the header of a list or set: a byte for size and kind
unfoldable pub list_at : Text → Read ListHead
list_at text = do
  first ← byte_at text.at text
  if is_kind (first.0 % 16)
      then read_as (λ size. record { kind = first.0 % 16; size = size }) (size_at (first.0 / 16) first.1)
      else Err (BadType text.at)

-- so many values, one after another
unfoldable pub elements_at : {A : Type 0} → (Text → Read A) → ℕ → Text → Read (List A)
elements_at read zero text = Ok ([], text)
elements_at read (suc n) text = do
  first ← read text
  read_as (λ others. first.0 ∷ others) (elements_at read n first.1)

-- what stands behind a field's header: its value and the other entries; nothing behind the stop
abbrev pub entries_behind : {A : Type 0} → (ℕ → Text → Read A) → (ℤ → Text → Read (List (Entry A))) → Option Field → Text → Read (List (Entry A))
entries_behind read others None text = Ok ([], text)
entries_behind read others (Some field) text = do
  value ← read field.kind text
  read_as (λ more. record { id = field.id; kind = field.kind; value = value.0 } ∷ more) (others field.id value.1)

-- The entries up to the stop, behind the field with the id last. Of n bytes at most n are headers; behind those the text has ended.
unfoldable pub entries_at : {A : Type 0} → (ℕ → Text → Read A) → ℕ → ℤ → Text → Read (List (Entry A))
entries_at read zero last text = Err (Short text.at)
entries_at read (suc n) last text = do
  header ← field_at last text
  entries_behind read (entries_at read n) header.0 header.1

unfoldable pub struct_at : {A : Type 0} → (ℕ → Text → Read A) → Text → Read (List (Entry A))
struct_at read text = entries_at read (length text.bytes) (pos 0) text

-- a list or set: its elements' kind, and the elements
unfoldable pub sequence_at : {A : Type 0} → (ℕ → Text → Read A) → Text → Read (ℕ × List A)
sequence_at read text = do
  head ← list_at text
  read_as (λ xs. (head.0.kind, xs)) (elements_at (read (part_kind head.0.kind)) head.0.size head.1)

unfoldable pub pair_at : {A : Type 0} → (ℕ → Text → Read A) → (key value : ℕ) → Text → Read (A × A)
pair_at read key value text = do
  k ← read (part_kind key) text
  read_as (λ v. (k.0, v)) (read (part_kind value) k.1)

-- the pairs of a map, behind a byte for the kinds of keys and values
unfoldable pub pairs_at : {A : Type 0} → (ℕ → Text → Read A) → ℕ → Text → Read (List (A × A))
pairs_at read size text = do
  kinds ← byte_at text.at text
  if is_kind (kinds.0 / 16) && is_kind (kinds.0 % 16)
      then elements_at (pair_at read (kinds.0 / 16) (kinds.0 % 16)) size kinds.1
      else Err (BadType text.at)

-- a map: its size, and its pairs where there are any
unfoldable pub map_at : {A : Type 0} → (ℕ → Text → Read A) → Text → Read (List (A × A))
map_at read text = do
  size ← number_at max_size text
  if size.0 == 0 then Ok ([], size.1) else pairs_at read size.0 size.1

-- a value of a kind below 9, as it stands in a field
unfoldable pub leaf_at : ℕ → Text → Read Leaf
leaf_at kind text =
    if nat_le kind 2 then Ok (fixed [], text)
    else if kind == 3 then read_as fixed (bytes_at text.at 1 text)
    else if nat_le kind 6 then read_as number (int_at kind text)
    else if kind == 7 then read_as fixed (bytes_at text.at 8 text)
    else read_as binary (binary_at text)

-- a value of a kind from 9 on
unfoldable pub container_at : {A : Type 0} → (ℕ → Text → Read A) → ℕ → Text → Read (Node A)
container_at read kind text =
    if kind == 12 then read_as entries (struct_at read text)
    else if kind == 11 then read_as pairs (map_at read text)
    else read_as (λ x. elements x.0 x.1) (sequence_at read text)

-- A value of a kind, as it stands in a field, with at most so many containers inside each other. One too many is refused before anything of it is read.
unfoldable pub value_at : (levels : ℕ) → ℕ → Text → Read (Value levels)
value_at zero kind text = if nat_lt kind 9 then read_as leaf (leaf_at kind text) else Err (TooDeep text.at)
value_at (suc levels) kind text = if nat_lt kind 9 then read_as leaf (leaf_at kind text) else container_at (value_at levels) kind text
