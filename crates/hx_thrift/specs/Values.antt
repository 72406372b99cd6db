-- Values of Apache Thrift's compact protocol, as trees.
use Rattle.std.specs.Prelude.{ℕ, zero, suc, ℤ, List}

-- A value without parts: a number (i16, i32, i64), a binary, or bytes of a fixed size (one for an i8, eight for a double, none for a flag that is a field).
pub data Leaf : Type 0 where
  number : ℤ → Leaf
  binary : List ℕ → Leaf
  fixed : List ℕ → Leaf

-- a field of a struct, as it was written
pub record Entry (A : Type 0) : Type 0 where
  pub id : ℤ
  pub kind : ℕ
  pub value : A

-- a value whose parts are of A: a list or set with the kind of its elements, a map, or a struct
pub data Node (A : Type 0) : Type 0 where
  leaf : Leaf → Node A
  elements : ℕ → List A → Node A
  pairs : List (A × A) → Node A
  entries : List (Entry A) → Node A

-- a value with at most so many containers inside each other
abbrev pub Value : ℕ → Type 0
Value zero = Node ⊥
Value (suc levels) = Node (Value levels)
