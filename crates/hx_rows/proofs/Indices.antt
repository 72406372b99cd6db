-- The field at a index of a record.
use Rattle.std.proofs.Common.{◌≡◌, ◌≤◌, ◌∷◌, [], ℕ, Bor, List, None, Some, arith, get_or, length, refl, suc, sym, zero}
use Rattle.std.proofs.lemmas.List.{get_or_past, length-map}
use Rattle.hx_rows.specs.Headers.{fields_now}
use Rattle.csv.specs.Records.{field_at}

pub field-there : (fields : List (List ℕ)) (index : ℕ) (x : List ℕ) → Some x ≡ field_at fields index → x ≡ get_or fields index []
unfolding field_at
field-there [] index x h = cc
field-there (f ∷ fs) zero x h = cc
field-there (f ∷ fs) (suc index) x h = field-there fs index x h

pub field-past : (fields : List (List ℕ)) (index : ℕ) → None ≡ field_at fields index → [] ≡ get_or fields index []
unfolding field_at
field-past [] index h = refl
field-past (f ∷ fs) zero h = cc
field-past (f ∷ fs) (suc index) h = field-past fs index h

-- past the last of the fields of a line
pub column-past : (fields : List (Bor (List ℕ))) (column : ℕ) → length fields ≤ column → [] ≡ get_or (fields_now fields) column []
column-past fields column past = sym (get_or_past (fields_now fields) column [] (omega (arith, length-map fields (λ (field : Bor (List ℕ)). field.now))))
