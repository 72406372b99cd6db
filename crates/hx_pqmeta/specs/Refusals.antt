-- Refusals: one check after another, where the first refusal counts.
use Rattle.std.specs.Prelude.{◌≡◌, ℕ, List, [], ◌∷◌, Option, Some, None, Result, Ok, Err, ◌⊎◌}
use Rattle.hx_thrift.specs.declared.refusal.ThriftRefusal.{ThriftRefusal}
use Rattle.hx_thrift.specs.declared.refusal.ThriftRefusal.TheVariants.{Short, BadType, TooDeep, Overlong}
use Rattle.hx_thrift.specs.Texts.{◌>>=◌}
use Rattle.hx_pqmeta.specs.declared.refusal.PqRefusal.{PqRefusal}
use Rattle.hx_pqmeta.specs.declared.refusal.PqRefusal.TheVariants.{Memory, Thrift, Missing}

abbrev pub place_of : ThriftRefusal → ℕ
place_of (Short at) = at
place_of (BadType at) = at
place_of (TooDeep at) = at
place_of (Overlong at) = at

-- what is read by Thrift's protocol, whose refusal counts by its place alone
abbrev pub placed : {A : Type 0} → Result A ThriftRefusal → Result A PqRefusal
placed (Ok x) = Ok x
placed (Err refusal) = Err (Thrift (place_of refusal))

-- A field that has to be there. It is named by 100 times its struct's number and its id.
abbrev pub needed : {A : Type 0} → ℕ → Option A → Result A PqRefusal
needed field (Some x) = Ok x
needed field None = Err (Missing field)

-- a check of each of a list, in order
abbrev pub each : {A B : Type 0} → (A → Result B PqRefusal) → List A → Result (List B) PqRefusal
each check [] = Ok []
each check (x ∷ xs) = check x >>= λ y. each check xs >>= λ ys. Ok (y ∷ ys)

-- A call has answered what is asked for: the value, or the first refusal. Want of memory alone may come in its place.
abbrev pub AnswersOrWants : {X Y : Type 0} → (X → Y) → Result X PqRefusal → Result Y PqRefusal → Type 0
AnswersOrWants view (Ok x) wanted = wanted ≡ Ok (view x)
AnswersOrWants view (Err refusal) wanted = (refusal ≡ Memory) ⊎ (wanted ≡ Err refusal)
