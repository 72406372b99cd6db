-- The columns of good rows have these rows.
use Rattle.std.proofs.Common.{◌≡◌, ℕ, suc, add-one, ◌+◌, ◌≤◌, List, [], ◌∷◌, ◌++◌, length, map, slice_get, Some, Ok, refl, sym, ap, ◌∙◌, arith, append_assoc, length-append}
use Rattle.std.specs.Prelude.{All, nat_lt, false}
use Rattle.std.specs.List.{AllByRecursion, range_with_len}
use Rattle.std.proofs.lemmas.Bool.{le-ltb}
use Rattle.std.proofs.lemmas.List.{length-map}
use Rattle.std.proofs.lemmas.List.Elements.{recursion_from_All}
use Rattle.std.proofs.lemmas.Option.{slice_get-map}
use Rattle.hx_base.specs.Columns.{columns_of_rows, row_of, value_in, values_of}
use Rattle.hx_base.specs.Limits.{most_rows}
use Rattle.hx_base.specs.Rows.{IsGood}
use Rattle.hx_base.specs.declared.columns.Column.TheVariants as column
use Rattle.hx_base.specs.declared.row.Row.{Row}
use Rattle.hx_rows.specs.Parquet.{row_across, rows_of_columns}
use Rattle.hx_rows.specs.Rows.{rows_from}

abbrev AreTheirValues : Type 0
AreTheirValues = (row : Row) → IsGood row → row_of (map Some (values_of row)) ≡ Ok row

seam : (front : List Row) (row : Row) (rest : List Row) → slice_get (front ++ row ∷ rest) (length front) ≡ Some row
seam [] row rest = refl
seam (first ∷ front) row rest = seam front row rest

-- the values at the index of a row
values_across : (rows : List Row) (i : ℕ) (row : Row) → slice_get rows i ≡ Some row → map (λ column. slice_get column i) (columns_of_rows rows) ≡ map Some (values_of row)
values_across rows i row found =
    rw (slice_get-map (value_in column.Position) rows i, slice_get-map (value_in column.Id) rows i, slice_get-map (value_in column.X) rows i, slice_get-map (value_in column.Y) rows i, slice_get-map (value_in column.Z) rows i, found) refl

rows_on : AreTheirValues → (rows front rest : List Row) → rows ≡ front ++ rest → AllByRecursion IsGood rest → length rows ≤ most_rows
    → rows_from (row_across (columns_of_rows rows)) (suc (length front)) (range_with_len (length front) (length rest)) ≡ Ok rest
rows_on own rows front [] is good few = refl
rows_on own rows front (row ∷ rest) is good few =
    let count : length rows ≡ length front + suc (length rest) = ap length is ∙ length-append front (row ∷ rest) in
    let number : nat_lt most_rows (suc (length front)) ≡ false = le-ltb most_rows (suc (length front)) (omega (arith, count, few)) in
    let found : slice_get rows (length front) ≡ Some row = ap (λ (xs : List Row). slice_get xs (length front)) is ∙ seam front row rest in
    let here : row_of (map (λ column. slice_get column (length front)) (columns_of_rows rows)) ≡ Ok row = ap row_of (values_across rows (length front) row found) ∙ own row good.0 in
    let next : length (front ++ row ∷ []) ≡ suc (length front) = omega (arith, length-append front (row ∷ [])) in
    let others = rw next at (rows_on own rows (front ++ row ∷ []) rest (is ∙ sym (append_assoc front (row ∷ []) rest)) good.1 few) in
    rw (number, here, add-one (length front), others) refl

pub own_rows : AreTheirValues → (rows : List Row) → All IsGood rows → length rows ≤ most_rows → rows_of_columns (columns_of_rows rows) ≡ Ok rows
unfolding rows_of_columns
own_rows own rows good few =
    let count : length (map (value_in column.Position) rows) ≡ length rows = length-map rows (value_in column.Position) in
    rw count (rows_on own rows [] rows refl (recursion_from_All IsGood rows good) few)
