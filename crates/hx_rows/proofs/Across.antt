-- The rows of columns, by the indices of their values.
use Rattle.std.proofs.Common.{[], ◌∷◌, ◌≡◌, ◌-◌, ◌<◌, ◌≤◌, None, ℕ, ℤ, List, Result, Vec, Global, add-one, arith, get_or, length, refl, slice_get, suc}
use Rattle.std.specs.List.{range_with_len}
use Rattle.std.proofs.lemmas.List.{get_or-map}
use Rattle.hx_base.specs.Columns.{row_of}
use Rattle.hx_base.specs.declared.row.Row.{Row}
use Rattle.hx_rows.specs.Parquet.{row_across, rows_of_columns}
use Rattle.hx_rows.specs.Reading.{Reads}
use Rattle.hx_rows.specs.Rows.{rows_from}
use Rattle.hx_rows.specs.declared.fault.Fault.{Fault}
use Rattle.hx_rows.specs.declared.read.RowRefusal.{RowRefusal}

pub range-more : (i n : ℕ) → i < n → range_with_len i (n - i) ≡ i ∷ range_with_len (suc i) (n - suc i)
range-more i n low = let more : n - i ≡ suc (n - suc i) = omega arith in rw (more, add-one i) refl

-- the first five of columns
abbrev first_five : List (List ℤ) → List (List ℤ)
first_five columns = get_or columns 0 [] ∷ get_or columns 1 [] ∷ get_or columns 2 [] ∷ get_or columns 3 [] ∷ get_or columns 4 [] ∷ []

-- a row takes its values from them alone
row-of-five : (columns : List (List ℤ)) (i : ℕ) → 5 ≤ length columns → row_across (first_five columns) i ≡ row_across columns i
unfolding row_of
row-of-five columns i five =
    let value = λ (column : List ℤ). slice_get column i in
    rw (
      get_or-map value columns 0 [] None (omega arith),
      get_or-map value columns 1 [] None (omega arith),
      get_or-map value columns 2 [] None (omega arith),
      get_or-map value columns 3 [] None (omega arith),
      get_or-map value columns 4 [] None (omega arith),
    )
    refl

rows_from-same : {A : Type 0} (f g : A → Result Row Fault) → ((x : A) → f x ≡ g x) → (number : ℕ) (xs : List A) → rows_from f number xs ≡ rows_from g number xs
rows_from-same f g same number [] = refl
rows_from-same f g same number (x ∷ xs) = rw (same x, rows_from-same f g same (suc number) xs) refl

pub reads-columns : (columns : List (List ℤ)) (result : Result (Vec Row Global) RowRefusal) → 5 ≤ length columns
    → Reads result (rows_from (row_across (get_or columns 0 [] ∷ get_or columns 1 [] ∷ get_or columns 2 [] ∷ get_or columns 3 [] ∷ get_or columns 4 [] ∷ [])) 1 (range_with_len 0 (length (get_or columns 0 []))))
    → Reads result (rows_of_columns columns)
unfolding rows_of_columns
reads-columns columns result five reads =
    rw (rows_from-same (row_across (first_five columns)) (row_across columns) (λ i. row-of-five columns i five) 1 (range_with_len 0 (length (get_or columns 0 [])))) at reads
