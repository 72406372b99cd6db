-- How Apache Thrift's compact protocol spells values: which bytes stand for which value (its encodings of integers, binaries, structs, lists, sets and maps).
-- Up to Spells nothing reads and nothing has a place. Behind it stands the law that what is spelled and what is read are one.
use Rattle.std.specs.Prelude.{◌≡◌, ◌≢◌, ℕ, zero, suc, ◌+◌, ◌*◌, ◌%◌, ◌^◌, ◌<◌, ◌≤◌, ℤ, pos, ◌+ℤ◌, List, [], ◌∷◌, ◌++◌, length, ◌⊎◌, ◌↔◌, IsTrue, Option, Some, None, Result, Ok, Err}
use Rattle.hx_thrift.specs.declared.header.Field.{Field}
use Rattle.hx_thrift.specs.declared.header.ListHead.{ListHead}
use Rattle.hx_thrift.specs.declared.refusal.ThriftRefusal.{ThriftRefusal}
use Rattle.hx_thrift.specs.Texts.{Text, EndsWithin}
use Rattle.hx_thrift.specs.Kinds.{IsKind, is_id, part_kind, max_size, zigzag, max_zigzag}
use Rattle.hx_thrift.specs.Values.{Leaf, number, binary, fixed, Entry, Node, leaf, elements, pairs, entries, Value}
use Rattle.hx_thrift.specs.Reading.{varint_at, value_at}

-- groups of seven bits, the least first: every byte but the last is 128 or more
abbrev pub AreGroups : List ℕ → ℕ → Type 0
AreGroups [] n = ⊥
AreGroups (byte ∷ bytes) n =
    (byte < 128) × (n ≡ byte) × (bytes ≡ [])
    ⊎ (128 ≤ byte) × ((high : ℕ) × (n ≡ byte % 128 + 128 * high) × AreGroups bytes high)

-- a varint, which may be longer than it has to be
pub record IsVarint (bytes : List ℕ) (n : ℕ) : Type 0 where
  pub groups : AreGroups bytes n
  pub count : length bytes ≤ 10
  pub fits : n < 2 ^ 64

-- a varint up to most
abbrev pub IsNumber : ℕ → List ℕ → ℕ → Type 0
IsNumber most bytes n = IsVarint bytes n × (n ≤ most)

-- an i16, i32 or i64: the varint of its zigzag number
abbrev pub IsInt : ℕ → List ℕ → ℤ → Type 0
IsInt kind bytes z = IsNumber (max_zigzag kind) bytes (zigzag z)

-- a length, and so many bytes
abbrev pub IsBinary : List ℕ → List ℕ → Type 0
IsBinary bytes body = (len : List ℕ) × (bytes ≡ len ++ body) × IsNumber max_size len (length body)

abbrev pub IsLeaf : ℕ → List ℕ → Leaf → Type 0
IsLeaf kind bytes (number z) = (4 ≤ kind) × (kind ≤ 6) × IsInt kind bytes z
IsLeaf kind bytes (binary body) = (kind ≡ 8) × IsBinary bytes body
IsLeaf kind bytes (fixed body) = (bytes ≡ body)
    × ((kind ≤ 2) × (length body ≡ 0) ⊎ (kind ≡ 3) × (length body ≡ 1) ⊎ (kind ≡ 7) × (length body ≡ 8))

-- values, one after another
abbrev pub AreAll : {A : Type 0} → (List ℕ → A → Type 0) → List ℕ → List A → Type 0
AreAll spelled bytes [] = bytes ≡ []
AreAll spelled bytes (x ∷ xs) = (first : List ℕ) × (rest : List ℕ) × (bytes ≡ first ++ rest) × spelled first x × AreAll spelled rest xs

-- A field's header behind the field with the id last: one byte for a step and the kind, or a byte for the kind and the id behind it.
-- A byte has room for steps up to 15.
abbrev pub IsHeader : ℤ → List ℕ → Field → Type 0
IsHeader last bytes field = IsKind field.kind × IsTrue (is_id field.id)
    × (((step : ℕ) × (0 < step) × (field.id ≡ last +ℤ pos step) × (bytes ≡ (step * 16 + field.kind) ∷ []))
    ⊎ ((own : List ℕ) × (bytes ≡ field.kind ∷ own) × IsVarint own (zigzag field.id)))

-- the entries of a struct, and the stop
abbrev pub AreEntries : {A : Type 0} → (ℕ → List ℕ → A → Type 0) → ℤ → List ℕ → List (Entry A) → Type 0
AreEntries spelled last bytes [] = bytes ≡ 0 ∷ []
AreEntries spelled last bytes (e ∷ es) =
    (header : List ℕ) × (body : List ℕ) × (rest : List ℕ) × (bytes ≡ header ++ (body ++ rest))
    × IsHeader last header (record { id = e.id; kind = e.kind }) × spelled e.kind body e.value × AreEntries spelled e.id rest es

-- The header of a list or set: one byte for size and kind, or a byte for 15 and the kind and the size behind it.
-- A byte has room for sizes up to 15.
abbrev pub IsListHead : List ℕ → ListHead → Type 0
IsListHead bytes head = IsKind head.kind
    × ((head.size ≢ 15) × (bytes ≡ (head.size * 16 + head.kind) ∷ [])
    ⊎ ((own : List ℕ) × (bytes ≡ (15 * 16 + head.kind) ∷ own) × IsNumber max_size own head.size))

-- a list or set of elements of a kind
abbrev pub IsSequence : {A : Type 0} → (ℕ → List ℕ → A → Type 0) → List ℕ → ℕ × List A → Type 0
IsSequence spelled bytes x =
    (head : List ℕ) × (body : List ℕ) × (bytes ≡ head ++ body)
    × IsListHead head (record { kind = x.0; size = length x.1 }) × AreAll (spelled (part_kind x.0)) body x.1

abbrev pub IsPair : {A : Type 0} → (ℕ → List ℕ → A → Type 0) → (key value : ℕ) → List ℕ → A × A → Type 0
IsPair spelled key value bytes x =
    (first : List ℕ) × (second : List ℕ) × (bytes ≡ first ++ second) × spelled (part_kind key) first x.0 × spelled (part_kind value) second x.1

-- pairs, where there are any behind a byte for the kinds of keys and values
abbrev pub ArePairs : {A : Type 0} → (ℕ → List ℕ → A → Type 0) → List ℕ → List (A × A) → Type 0
ArePairs spelled bytes [] = bytes ≡ []
ArePairs spelled bytes (x ∷ xs) =
    (key : ℕ) × (value : ℕ) × (body : List ℕ) × (bytes ≡ (key * 16 + value) ∷ body)
    × IsKind key × IsKind value × AreAll (IsPair spelled key value) body (x ∷ xs)

-- a size, and so many pairs
abbrev pub IsMap : {A : Type 0} → (ℕ → List ℕ → A → Type 0) → List ℕ → List (A × A) → Type 0
IsMap spelled bytes xs = (size : List ℕ) × (body : List ℕ) × (bytes ≡ size ++ body) × IsNumber max_size size (length xs) × ArePairs spelled body xs

-- a value whose parts are spelled so
abbrev pub IsNode : {A : Type 0} → (ℕ → List ℕ → A → Type 0) → ℕ → List ℕ → Node A → Type 0
IsNode spelled kind bytes (leaf x) = IsLeaf kind bytes x
IsNode spelled kind bytes (elements part xs) = ((kind ≡ 9) ⊎ (kind ≡ 10)) × IsSequence spelled bytes (part, xs)
IsNode spelled kind bytes (pairs xs) = (kind ≡ 11) × IsMap spelled bytes xs
IsNode spelled kind bytes (entries es) = (kind ≡ 12) × AreEntries spelled (pos 0) bytes es

-- a value that is no container
abbrev pub IsBare : {A : Type 0} → ℕ → List ℕ → Node A → Type 0
IsBare kind bytes (leaf x) = IsLeaf kind bytes x
IsBare kind bytes (elements part xs) = ⊥
IsBare kind bytes (pairs xs) = ⊥
IsBare kind bytes (entries es) = ⊥

-- The bytes spell the value of a kind, as it stands in a field, with at most so many containers inside each other.
abbrev pub Spells : (levels : ℕ) → ℕ → List ℕ → Value levels → Type 0
Spells zero kind bytes value = IsBare kind bytes value
Spells (suc levels) kind bytes value = IsNode (Spells levels) kind bytes value

-- A text begins with the spelling of a value, and rest is what stands behind that.
pub record Begins (levels kind : ℕ) (text : Text) (value : Value levels) (rest : Text) : Type 0 where
  pub front : List ℕ
  pub spelled : Spells levels kind front value
  pub parts : text.bytes ≡ front ++ rest.bytes
  pub place : rest.at ≡ text.at + length front

abbrev pub refusal_of : {A : Type 0} → Result A ThriftRefusal → Option ThriftRefusal
refusal_of (Ok x) = None
refusal_of (Err refusal) = Some refusal

-- the first refusal in reading a value, or none
abbrev pub thrift_fault : (levels kind : ℕ) → Text → Option ThriftRefusal
thrift_fault levels kind text = refusal_of (value_at levels kind text)

-- A text begins with a spelled value exactly where reading gives that value.
abbrev pub ReadsWhatIsSpelled : Type 0
ReadsWhatIsSpelled = (levels kind : ℕ) (text : Text) (value : Value levels) (rest : Text) → IsKind kind
    → Begins levels kind text value rest ↔ (value_at levels kind text ≡ Ok (value, rest))

-- The first refusal is none exactly where a text begins with some spelled value.
abbrev pub RefusesTheRest : Type 0
RefusesTheRest = (levels kind : ℕ) (text : Text) → IsKind kind
    → (thrift_fault levels kind text ≡ None) ↔ ((value : Value levels) × (rest : Text) × Begins levels kind text value rest)

-- What follows a value changes nothing in how it is read: so a part of a file, or a window, that holds the value is enough.
abbrev pub ReadsOn : Type 0
ReadsOn = (levels kind : ℕ) (text : Text) (value : Value levels) (rest : Text) (more : List ℕ) → IsKind kind
    → value_at levels kind text ≡ Ok (value, rest)
    → value_at levels kind (record { at = text.at; bytes = text.bytes ++ more }) ≡ Ok (value, record { at = rest.at; bytes = rest.bytes ++ more })

-- What is read of a value ends within its text.
abbrev pub ReadsWithin : Type 0
ReadsWithin = (levels kind : ℕ) (text : Text) (value : Value levels) (rest : Text) → IsKind kind
    → value_at levels kind text ≡ Ok (value, rest) → EndsWithin text rest

-- A text begins with the varint of a number, and rest is what stands behind that.
pub record BeginsVarint (text : Text) (n : ℕ) (rest : Text) : Type 0 where
  pub front : List ℕ
  pub spelled : IsVarint front n
  pub parts : text.bytes ≡ front ++ rest.bytes
  pub place : rest.at ≡ text.at + length front

-- A text begins with a varint exactly where reading gives its number.
abbrev pub ReadsVarints : Type 0
ReadsVarints = (text : Text) (n : ℕ) (rest : Text) → BeginsVarint text n rest ↔ (varint_at text ≡ Ok (n, rest))
