-- What the reader keeps of a record and of a header.
use Rattle.std.specs.Prelude.{◌∷◌, [], ℕ, List, Result, Ok, Err, map}
use Rattle.std.specs.Borrow.{Bor}
use Rattle.hx_rows.specs.declared.fault.Fault.{Fault}
use Rattle.hx_rows.specs.declared.header.Header.{Header}

-- the fields of a record, which are parts of a text
abbrev pub fields_now : List (Bor (List ℕ)) → List (List ℕ)
fields_now fields = map (λ field. field.now) fields

-- the five columns of a header
abbrev pub columns_in : Header → List ℕ
columns_in h = h.hp ∷ h.id ∷ h.x ∷ h.y ∷ h.z ∷ []

abbrev pub named_columns : Result Header Fault → Result (List ℕ) Fault
named_columns (Ok h) = Ok (columns_in h)
named_columns (Err f) = Err f
