-- Writing Apache Thrift's compact protocol: the bytes that are written for an item and for a value.
-- Of the spellings of an item they are the shortest one.
use Rattle.std.specs.Prelude.{◌≡◌, ℕ, zero, suc, ◌+◌, ◌-◌, ◌*◌, ◌/◌, ◌%◌, ◌^◌, ◌<◌, ◌≤◌, ℤ, pos, negsuc, List, [], ◌∷◌, ◌++◌, length, ◌⊎◌, IsTrue, ◌&&◌, nat_lt, nat_le, if◌then◌else◌}
use Rattle.hx_thrift.specs.declared.header.Field.{Field}
use Rattle.hx_thrift.specs.declared.header.ListHead.{ListHead}
use Rattle.hx_thrift.specs.Kinds.{IsKind, is_kind, is_id, part_kind, max_size, zigzag, max_zigzag}
use Rattle.hx_thrift.specs.Values.{Leaf, number, binary, fixed, Entry, Node, leaf, elements, pairs, entries, Value}
use Rattle.hx_thrift.specs.Spelling.{IsVarint, IsBinary, IsHeader, IsListHead, Spells}

-- A call of a writer has added these bytes at the end.
pub record Appends (old new bytes : List ℕ) : Type 0 where
  pub is : new ≡ old ++ bytes

-- groups of seven bits, the least first, at most so many before the last one: every byte but the last is 128 or more
unfoldable pub groups : (most : ℕ) → ℕ → List ℕ
groups zero n = n % 128 ∷ []
groups (suc most) n = if nat_lt n 128 then n ∷ [] else (128 + n % 128) ∷ groups most (n / 128)

-- the shortest varint of a number below 2^64
abbrev pub varint : ℕ → List ℕ
varint n = groups 9 n

-- from the id of a field to that of the next one
abbrev pub step : (last id : ℤ) → ℕ
step (pos last) (pos id) = id - last
step (pos last) (negsuc id) = 0
step (negsuc last) id = 0

-- A field's header behind the field with the id last: one byte where the step has room in it.
abbrev pub header : (last id : ℤ) → (kind : ℕ) → List ℕ
header last id kind = if nat_le 1 (step last id) && nat_le (step last id) 15 then (step last id * 16 + kind) ∷ [] else kind ∷ varint (zigzag id)

-- the header of a list: one byte where the size has room in it
abbrev pub list_head : (kind size : ℕ) → List ℕ
list_head kind size = if nat_le size 14 then (size * 16 + kind) ∷ [] else (15 * 16 + kind) ∷ varint size

-- a length, and so many bytes
abbrev pub counted : List ℕ → List ℕ
counted bytes = varint (length bytes) ++ bytes

-- ---- values

abbrev pub written_leaf : Leaf → List ℕ
written_leaf (number z) = varint (zigzag z)
written_leaf (binary bytes) = counted bytes
written_leaf (fixed bytes) = bytes

-- values, one after another
abbrev pub written_all : {A : Type 0} → (A → List ℕ) → List A → List ℕ
written_all written [] = []
written_all written (x ∷ xs) = written x ++ written_all written xs

-- the entries of a struct behind the field with the id last, and the stop
abbrev pub written_entries : {A : Type 0} → (A → List ℕ) → (last : ℤ) → List (Entry A) → List ℕ
written_entries written last [] = 0 ∷ []
written_entries written last (e ∷ es) = header last e.id e.kind ++ (written e.value ++ written_entries written e.id es)

-- A value whose parts are written so. Maps aren't written.
abbrev pub written_node : {A : Type 0} → (A → List ℕ) → Node A → List ℕ
written_node written (leaf x) = written_leaf x
written_node written (elements part xs) = list_head part (length xs) ++ written_all written xs
written_node written (pairs xs) = []
written_node written (entries es) = written_entries written (pos 0) es

-- the bytes of a value
abbrev pub written : (levels : ℕ) → Value levels → List ℕ
written zero value = written_node (λ _. []) value
written (suc levels) value = written_node (written levels) value

-- ---- values that fit a kind: their numbers, lengths, sizes and ids are within its ranges

abbrev pub SuitsLeaf : ℕ → Leaf → Type 0
SuitsLeaf kind (number z) = (4 ≤ kind) × (kind ≤ 6) × (zigzag z ≤ max_zigzag kind)
SuitsLeaf kind (binary body) = (kind ≡ 8) × (length body ≤ max_size)
SuitsLeaf kind (fixed body) = (kind ≤ 2) × (length body ≡ 0) ⊎ (kind ≡ 3) × (length body ≡ 1) ⊎ (kind ≡ 7) × (length body ≡ 8)

abbrev pub SuitAll : {A : Type 0} → (A → Type 0) → List A → Type 0
SuitAll suits [] = Unit {0}
SuitAll suits (x ∷ xs) = suits x × SuitAll suits xs

abbrev pub SuitEntries : {A : Type 0} → (ℕ → A → Type 0) → List (Entry A) → Type 0
SuitEntries suits [] = Unit {0}
SuitEntries suits (e ∷ es) = IsTrue (is_kind e.kind) × IsTrue (is_id e.id) × suits e.kind e.value × SuitEntries suits es

abbrev pub SuitsNode : {A : Type 0} → (ℕ → A → Type 0) → ℕ → Node A → Type 0
SuitsNode suits kind (leaf x) = SuitsLeaf kind x
SuitsNode suits kind (elements part xs) = (kind ≡ 9) × IsTrue (is_kind part) × (length xs ≤ max_size) × SuitAll (suits (part_kind part)) xs
SuitsNode suits kind (pairs xs) = ⊥
SuitsNode suits kind (entries es) = (kind ≡ 12) × SuitEntries suits es

-- a value that is no container
abbrev pub SuitsBare : {A : Type 0} → ℕ → Node A → Type 0
SuitsBare kind (leaf x) = SuitsLeaf kind x
SuitsBare kind (elements part xs) = ⊥
SuitsBare kind (pairs xs) = ⊥
SuitsBare kind (entries es) = ⊥

-- A value fits a kind: as one of that kind it can be written.
abbrev pub Suits : (levels : ℕ) → ℕ → Value levels → Type 0
Suits zero kind value = SuitsBare kind value
Suits (suc levels) kind value = SuitsNode (Suits levels) kind value

-- ---- laws: what is written of an item, and of a value, spells it

abbrev pub WritesVarints : Type 0
WritesVarints = (n : ℕ) → n < 2 ^ 64 → IsVarint (varint n) n

-- No spelling of a number has fewer bytes.
abbrev pub WritesShortest : Type 0
WritesShortest = (n : ℕ) (bytes : List ℕ) → IsVarint bytes n → length (varint n) ≤ length bytes

abbrev pub WritesHeaders : Type 0
WritesHeaders = (last : ℤ) (field : Field) → IsKind field.kind → IsTrue (is_id field.id) → IsHeader last (header last field.id field.kind) field

abbrev pub WritesLists : Type 0
WritesLists = (head : ListHead) → IsKind head.kind → head.size ≤ max_size → IsListHead (list_head head.kind head.size) head

abbrev pub WritesBinaries : Type 0
WritesBinaries = (bytes : List ℕ) → length bytes ≤ max_size → IsBinary (counted bytes) bytes

abbrev pub WritesValues : Type 0
WritesValues = (levels kind : ℕ) (value : Value levels) → Suits levels kind value → Spells levels kind (written levels value) value
