-- What a call answers that reads on in a struct.
use Rattle.std.specs.Prelude.{◌≡◌, ◌⊎◌, List, [], ◌∷◌, ◌++◌, Result, Ok, Err}
use Rattle.hx_thrift.specs.Texts.{Text, Read}
use Rattle.hx_thrift.specs.Values.{Entry}
use Rattle.hx_pqmeta.specs.declared.refusal.PqRefusal.{PqRefusal}
use Rattle.hx_pqmeta.specs.declared.refusal.PqRefusal.TheVariants.{Memory}
use Rattle.hx_pqmeta.specs.Refusals.{placed}

-- a refusal is the first one of the reading, or want of memory where that may be
abbrev pub Refuses : {Y : Type 0} → Type 0 → PqRefusal → Read Y → Type 0
Refuses wants refusal read = (wants × (refusal ≡ Memory)) ⊎ (placed read ≡ Err refusal)

-- A call has moved a reader over what is read, to new, and of its answer and the value that was read this holds; or it refused.
abbrev pub Gives : {X Y : Type 0} → Type 0 → Text → Result X PqRefusal → Read Y → (X → Y → Type 0) → Type 0
Gives {Y = Y} wants new (Ok x) read holds = (y : Y) × (read ≡ Ok (y, new)) × holds x y
Gives wants new (Err refusal) read holds = Refuses wants refusal read

-- One more entry was added: where old is what some entries say, new is what they say with this one behind them.
abbrev pub Adds : {A S : Type 0} → (List (Entry A) → S) → (old new : S) → Entry A → Type 0
Adds {A = A} said old new e = (es : List (Entry A)) → old ≡ said es → new ≡ said (es ++ e ∷ [])
