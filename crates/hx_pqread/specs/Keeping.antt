-- What is kept of a column's values: the numbers of those that are there, how many values there are, and the row of the first absent one.
use Rattle.std.specs.Prelude.{◌≡◌, ◌⊎◌, ℕ, ℤ, ◌+◌, List, ◌++◌, length, Bool, true, false, Option, Some, None, Result, Ok, Err}
use Rattle.std.specs.Option.{option_or}
use Rattle.hx_pqmeta.specs.declared.refusal.PqRefusal.{PqRefusal}
use Rattle.hx_pqmeta.specs.declared.refusal.PqRefusal.TheVariants.{Memory}
use Rattle.hx_pqread.specs.declared.kept.Kept.{Kept}
use Rattle.hx_pqread.specs.Values.{present, first_absent}

-- What is kept of values.
pub record Keeps (values : List (Option ℤ)) (kept : Kept) : Type 0 where
  pub numbers : kept.numbers.items ≡ present values
  pub count : kept.count ≡ length values
  pub absent : kept.absent ≡ first_absent 1 values

-- These values have come behind those of which old was kept.
pub record KeepsMore (values : List (Option ℤ)) (old new : Kept) : Type 0 where
  pub numbers : new.numbers.items ≡ old.numbers.items ++ present values
  pub count : new.count ≡ old.count + length values
  pub absent : new.absent ≡ option_or old.absent (first_absent (old.count + 1) values)

-- what a call that keeps a body's values answers: whether the body is as it has to be
abbrev pub KeepsBody : (old new : Kept) → (is_right : Bool) → Option (List (Option ℤ)) → Type 0
KeepsBody old new true body = (values : List (Option ℤ)) × (body ≡ Some values) × KeepsMore values old new
KeepsBody old new false body = body ≡ None

-- what a call that keeps a page's values answers: the place behind the page, or the first refusal; or want of memory
abbrev pub KeepsPage : (old new : Kept) → Result ℕ PqRefusal → Result (List (Option ℤ) × ℕ) PqRefusal → Type 0
KeepsPage old new (Ok next) page = (values : List (Option ℤ)) × (page ≡ Ok (values, next)) × KeepsMore values old new
KeepsPage old new (Err refusal) page = (refusal ≡ Memory) ⊎ (page ≡ Err refusal)

-- the like for a call that keeps the values of several pages
abbrev pub KeepsPages : {X : Type 0} → (old new : Kept) → Result X PqRefusal → Result (List (Option ℤ)) PqRefusal → Type 0
KeepsPages old new (Ok done) pages = (values : List (Option ℤ)) × (pages ≡ Ok values) × KeepsMore values old new
KeepsPages old new (Err refusal) pages = (refusal ≡ Memory) ⊎ (pages ≡ Err refusal)

-- what a call that reads a column answers: what is kept of its values, or the first refusal; or want of memory
abbrev pub KeepsColumn : Result Kept PqRefusal → Result (List (Option ℤ)) PqRefusal → Type 0
KeepsColumn (Ok kept) column = (values : List (Option ℤ)) × (column ≡ Ok values) × Keeps values kept
KeepsColumn (Err refusal) column = (refusal ≡ Memory) ⊎ (column ≡ Err refusal)
