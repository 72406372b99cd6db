-- The five columns of rows are a table, which reads as the rows.
use Rattle.std.proofs.Common.{◌≡◌, ℕ, zero, suc, ◌+◌, ◌*◌, ◌<◌, ◌≤◌, ◌^◌, ℤ, pos, negsuc, List, [], ◌∷◌, ◌++◌, length, map, take, drop, Ok, refl, sym, ap, subst, arith, length-append, length-drop}
use Rattle.std.specs.Prelude.{◌≢◌, FitsSigned, All, AllPairs, false}
use Rattle.std.specs.Str.{bytes_eq}
use Rattle.std.specs.Int.{w64}
use Rattle.std.specs.List.{AllByRecursion}
use Rattle.std.proofs.lemmas.List.{length-map, length-take}
use Rattle.std.proofs.lemmas.List.Elements.{recursion_from_All, All-from_recursion}
use Rattle.std.proofs.lemmas.List.Kept.{AllPairs-cons}
use Rattle.std.proofs.lemmas.Slice.Eq.{bytes_eq-Decides}
use Rattle.std.proofs.Math.Nat.{mul-le-mul}
use Rattle.hx_base.specs.Columns.{column_names, columns, columns_of_rows, name_in, value_in}
use Rattle.hx_base.specs.Limits.{most_rows}
use Rattle.hx_base.specs.Rows.{IsGood, square}
use Rattle.hx_base.specs.declared.columns.Column.{Column}
use Rattle.hx_base.specs.declared.columns.Column.TheVariants as column
use Rattle.hx_base.specs.declared.row.Row.{Row}
use Rattle.hx_pqmeta.specs.Footers.{magic}
use Rattle.hx_pqmeta.specs.Writing.{page_header_bytes, footer_tail, BoundsPageHeaders}
use Rattle.hx_pqread.specs.Laws.{HasColumns, ReadsWhatIsThere}
use Rattle.hx_rows.specs.Parquet.{rows_of_columns, parquet_rows}
use Rattle.hx_pqwrite.specs.Files.{page_rows, body, head_of, page, pages, page_count, column_pages, all_pages, footer_of, written_file}
use Rattle.hx_pqwrite.specs.Tables.{IsWritable, IsTable, RowFits, ReadsTables, ReadsRows}
use Rattle.hx_pqwrite.proofs.Bodies.{body_length}
use Rattle.hx_pqwrite.proofs.Written.{short_names}

-- ---- rows are a table

all_of : (f : Row → ℤ) → ((row : Row) → RowFits row → FitsSigned w64 (f row)) → (rows : List Row) → AllByRecursion RowFits rows → AllByRecursion (FitsSigned w64) (map f rows)
all_of f each [] all = tt
all_of f each (row ∷ rows) all = (each row all.0, all_of f each rows all.1)

value_fits : (c : Column) (row : Row) → RowFits row → FitsSigned w64 (value_in c row)
value_fits column.Position row fits = fits.hp
value_fits column.Id row fits = fits.id
value_fits column.X row fits = fits.x
value_fits column.Y row fits = fits.y
value_fits column.Z row fits = fits.z

writable : (columns : List Column) (rows : List Row) → AllByRecursion RowFits rows → AllByRecursion (IsWritable (length rows)) (map (λ c. map (value_in c) rows) columns)
writable [] rows fit = tt
writable (c ∷ columns) rows fit = (record { count = length-map rows (value_in c); fit = all_of (value_in c) (value_fits c) rows fit }, writable columns rows fit)

apart : (a b : List ℕ) → bytes_eq a b ≡ false → a ≢ b
apart a b other same = cc (other, (bytes_eq-Decides a b).1 same)

-- the first of several names is none of the others
first_apart : (name : List ℕ) (names : List (List ℕ)) → AllByRecursion (λ (other : List ℕ). bytes_eq name other ≡ false) names → AllPairs (λ (one : List ℕ) other. one ≢ other) names
    → AllPairs (λ (one : List ℕ) other. one ≢ other) (name ∷ names)
first_apart name names others rest = AllPairs-cons (λ (one : List ℕ) other. one ≢ other) name names (All-from_recursion (λ (other : List ℕ). name ≢ other) names (each names others)) rest
  where
    each : (others : List (List ℕ)) → AllByRecursion (λ (other : List ℕ). bytes_eq name other ≡ false) others → AllByRecursion (λ (other : List ℕ). name ≢ other) others
    each [] all = tt
    each (other ∷ others) all = (apart name other all.0, each others all.1)

names_differ : AllPairs (λ (one : List ℕ) other. one ≢ other) column_names
names_differ =
    first_apart (name_in column.Position) (map name_in (column.Id ∷ column.X ∷ column.Y ∷ column.Z ∷ [])) (refl, (refl, (refl, (refl, tt))))
    (first_apart (name_in column.Id) (map name_in (column.X ∷ column.Y ∷ column.Z ∷ [])) (refl, (refl, (refl, tt)))
    (first_apart (name_in column.X) (map name_in (column.Y ∷ column.Z ∷ [])) (refl, (refl, tt))
    (first_apart (name_in column.Y) (map name_in (column.Z ∷ [])) (refl, tt) (first_apart (name_in column.Z) [] tt (λ i j d less few. absurd (omega (arith, few)))))))

is_table : (rows : List Row) → AllByRecursion RowFits rows → length rows < 2 ^ 63 → 4 + length (all_pages (columns_of_rows rows)) < 2 ^ 63 → IsTable column_names (length rows) (columns_of_rows rows)
is_table rows fit few long = record {
  some = omega arith;
  few = omega arith;
  short = short_names columns;
  differ = names_differ;
  same_count = refl;
  each = writable columns rows fit;
  rows_fit = few;
  long = long;
}

-- a file of a length that a vector has
pages_within : (rows : List Row) → 4 + length (all_pages (columns_of_rows rows)) ≤ length (written_file rows)
pages_within rows =
    let pages = all_pages (columns_of_rows rows) in
    let tail = footer_tail (footer_of column_names (length rows) (columns_of_rows rows)) in
    omega (arith, length-append (magic ++ pages) tail, length-append magic pages)

pub has_columns : ReadsTables → (rows : List Row) (file : List ℕ) → file ≡ written_file rows → All RowFits rows → length rows < 2 ^ 63 → length file < 2 ^ 63 → HasColumns file column_names (columns_of_rows rows)
has_columns reads rows file is fit few long =
    subst (λ (bytes : List ℕ). HasColumns bytes column_names (columns_of_rows rows)) (sym is)
    (reads column_names (length rows) (columns_of_rows rows) (is_table rows (recursion_from_All RowFits rows fit) few (omega (arith, pages_within rows, ap length is, long))))

-- ---- how long the pages are

pages_bound : BoundsPageHeaders → (count : ℕ) (numbers : List ℤ) → length (pages count numbers) ≤ count * 385 + length numbers * 8
unfolding pages
pages_bound bounds zero numbers = omega arith
pages_bound bounds (suc count) numbers =
    let now = take page_rows numbers in
    let later = drop page_rows numbers in
    let header = page_header_bytes (head_of (length now)) in
    let whole : length (page now ++ pages count later) ≡ length header + length (body now) + length (pages count later) = omega (arith, length-append (page now) (pages count later), length-append header (body now)) in
    omega (arith, whole, bounds (head_of (length now)), body_length now, pages_bound bounds count later, length-take page_rows numbers, length-drop page_rows numbers)

column_bound : BoundsPageHeaders → (c : Column) (rows : List Row) → length rows ≤ most_rows → length (column_pages (map (value_in c) rows)) ≤ 8802554896768
column_bound bounds c rows few =
    let count : length (map (value_in c) rows) ≡ length rows = length-map rows (value_in c) in
    omega (arith, pages_bound bounds (page_count (length (map (value_in c) rows))) (map (value_in c) rows), count, few)

all_bound : BoundsPageHeaders → (columns : List Column) (rows : List Row) → length rows ≤ most_rows → length (all_pages (map (λ c. map (value_in c) rows) columns)) ≤ length columns * 8802554896768
all_bound bounds [] rows few = omega arith
all_bound bounds (c ∷ columns) rows few =
    let now = column_pages (map (value_in c) rows) in
    let others = all_pages (map (λ c. map (value_in c) rows) columns) in
    omega (arith, length-append now others, column_bound bounds c rows few, all_bound bounds columns rows few)

-- ---- good rows

at_least : (n : ℕ) → n ≤ n * n
at_least zero = omega arith
at_least (suc n) = omega (arith, mul-le-mul {n₁ = 1} {m₁ = suc n} {n₂ = suc n} {m₂ = suc n} (omega arith) (omega arith))

square_fits : (z : ℤ) → square z ≤ 2000000000000000000 → FitsSigned w64 z
square_fits (pos n) small = omega (arith, at_least n, small)
square_fits (negsuc n) small = omega (arith, at_least (suc n), small)

row_fits : (row : Row) → IsGood row → FitsSigned w64 row.id → RowFits row
row_fits row good id = record {
  hp = omega (arith, good.pixel);
  id = id;
  x = square_fits row.x (omega (arith, good.no_longer));
  y = square_fits row.y (omega (arith, good.no_longer));
  z = square_fits row.z (omega (arith, good.no_longer));
}

rows_fit : (rows : List Row) → AllByRecursion IsGood rows → AllByRecursion (λ (row : Row). FitsSigned w64 row.id) rows → AllByRecursion RowFits rows
rows_fit [] good ids = tt
rows_fit (row ∷ rows) good ids = (row_fits row good.0 ids.0, rows_fit rows good.1 ids.1)

pub rows_again : ReadsTables → BoundsPageHeaders → ReadsWhatIsThere → ((rows : List Row) → All IsGood rows → length rows ≤ most_rows → rows_of_columns (columns_of_rows rows) ≡ Ok rows) → ReadsRows
unfolding parquet_rows
rows_again reads bounds standing own rows good ids few =
    let fit = rows_fit rows (recursion_from_All IsGood rows good) (recursion_from_All (λ (row : Row). FitsSigned w64 row.id) rows ids) in
    let long : 4 + length (all_pages (columns_of_rows rows)) < 2 ^ 63 = omega (arith, all_bound bounds columns rows few) in
    let table = is_table rows fit (omega (arith, few)) long in
    let read = (standing (written_file rows) column_names (columns_of_rows rows)).0 (reads column_names (length rows) (columns_of_rows rows) table) in
    rw read (own rows good few)
