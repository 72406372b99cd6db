-- Texts, and what it is to read from the front of one.
-- A whole file is the text at place 0. What stands in a file from place a up to place b, and a window of a source that begins at a, are texts at a.
use Rattle.std.specs.Prelude.{◌≡◌, ℕ, ◌+◌, ◌≤◌, List, length, Result, Ok, Err}
use Rattle.hx_thrift.specs.declared.refusal.ThriftRefusal.{ThriftRefusal}

-- a place, and the bytes from there on
pub record Text : Type 0 where
  pub at : ℕ
  pub bytes : List ℕ

-- A text stands within another one, and both have one end.
pub record EndsWithin (text rest : Text) : Type 0 where
  pub later : text.at ≤ rest.at
  pub same_end : rest.at + length rest.bytes ≡ text.at + length text.bytes

-- what is read at the front of a text, with the text behind it; or the first refusal
abbrev pub Read : Type 0 → Type 0
Read A = Result (A × Text) ThriftRefusal

-- one step after another: the first refusal counts
infixl 10 ◌>>=◌
abbrev pub ◌>>=◌ : {A B E : Type 0} → Result A E → (A → Result B E) → Result B E
(Ok x) >>= next = next x
(Err refusal) >>= next = Err refusal

-- what is read, made into another value
abbrev pub read_as : {A B : Type 0} → (A → B) → Read A → Read B
read_as make (Ok x) = Ok (make x.0, x.1)
read_as make (Err refusal) = Err refusal

-- a call has answered what is read
abbrev pub Answers : {X Y : Type 0} → (X → Y) → Result X ThriftRefusal → Result Y ThriftRefusal → Type 0
Answers view (Ok x) read = read ≡ Ok (view x)
Answers view (Err refusal) read = read ≡ Err refusal

-- A call that moves a reader from the old text to the new one has answered what is read: the new text stands behind it, or is the old one where the call refused.
abbrev pub Moves : {X Y : Type 0} → (X → Y) → (old new : Text) → Result X ThriftRefusal → Read Y → Type 0
Moves view old new (Ok x) read = read ≡ Ok (view x, new)
Moves view old new (Err refusal) read = (read ≡ Err refusal) × (new ≡ old)

-- the text behind what is read, whatever that is
abbrev pub rest_of : {A : Type 0} → Read A → Result Text ThriftRefusal
rest_of (Ok x) = Ok x.1
rest_of (Err refusal) = Err refusal

-- the same of a call that passes over what is read, which is some value
abbrev pub Passes : {X A : Type 0} → (old new : Text) → Result X ThriftRefusal → Read A → Type 0
Passes {A = A} old new (Ok x) read = (value : A) × (read ≡ Ok (value, new))
Passes old new (Err refusal) read = (read ≡ Err refusal) × (new ≡ old)
