-- The footer of a table can be written, and read again.
use Rattle.std.proofs.Common.{◌≡◌, ℕ, zero, suc, ◌+◌, ◌^◌, ◌<◌, ◌≤◌, ℤ, pos, ◌≤ℤ◌, rules, List, [], ◌∷◌, ◌++◌, length, map, false, eqb, inr, refl, sym, ap, ◌∙◌, arith, length-append}
use Rattle.std.specs.Prelude.{FitsSigned}
use Rattle.std.specs.List.{AllByRecursion}
use Rattle.std.specs.Int.{w64}
use Rattle.std.proofs.lemmas.Bool.Decides.{nat_tests}
use Rattle.std.proofs.lemmas.List.{length-map}
use Rattle.hx_pqmeta.specs.declared.chunk.Chunk.{Chunk}
use Rattle.hx_pqmeta.specs.Records.{GroupRecord}
use Rattle.hx_pqmeta.specs.WrittenFields.{total_size}
use Rattle.hx_pqmeta.specs.Writing.{IsColumnLeaf, IsColumnChunk, IsColumnGroup, IsColumnFooter, ChunkFits, FooterFits}
use Rattle.hx_pqwrite.specs.Files.{column_pages, all_pages, leaf_of, chunks_of, groups_of, footer_of}
use Rattle.hx_pqwrite.specs.Tables.{IsTable}

leaves_are : (names : List (List ℕ)) → AllByRecursion (λ (name : List ℕ). length name ≤ 64) names → AllByRecursion IsColumnLeaf (map leaf_of names)
leaves_are [] short = tt
leaves_are (name ∷ names) short = (record { kind = inr refl; repetition = refl; name = short.0; children = refl }, leaves_are names short.1)

count_chunks : (place rows : ℕ) (columns : List (List ℤ)) → length (chunks_of place rows columns) ≡ length columns
count_chunks place rows [] = refl
count_chunks place rows (numbers ∷ columns) = ap suc (count_chunks (place + length (column_pages numbers)) rows columns)

not_negative : (n : ℕ) → pos 0 ≤ℤ pos n
not_negative n = search rules

chunks_are : (place rows : ℕ) (columns : List (List ℤ)) → AllByRecursion (IsColumnChunk (pos rows)) (chunks_of place rows columns)
chunks_are place rows [] = tt
chunks_are place rows (numbers ∷ columns) = (
  record { has_path = refl; has_meta = refl; codec = refl; values = refl; plain_size = refl; least_size = not_negative (length (column_pages numbers)); stored_size = refl; data_page = refl; dictionary_page = refl },
  chunks_are (place + length (column_pages numbers)) rows columns,
)

sizes_are : (place rows : ℕ) (columns : List (List ℤ)) → total_size (chunks_of place rows columns) ≡ length (all_pages columns)
sizes_are place rows [] = refl
sizes_are place rows (numbers ∷ columns) =
    let now = column_pages numbers in
    ap (λ (n : ℕ). length now + n) (sizes_are (place + length now) rows columns) ∙ sym (length-append now (all_pages columns))

-- one row group where there are rows
abbrev pub one_group : ℕ → List Chunk → List GroupRecord
one_group rows chunks = record { rows = pos rows; chunks = chunks } ∷ []

pub some_rows : (rows : ℕ) (chunks : List Chunk) → groups_of (suc rows) chunks ≡ one_group (suc rows) chunks
some_rows rows chunks =
    let test : eqb (suc rows) 0 ≡ false = grind (arith, nat_tests) in
    rw test refl

pub footer_is : (names : List (List ℕ)) (rows : ℕ) (columns : List (List ℤ)) → 1 ≤ length names → length names ≤ 64 → AllByRecursion (λ (name : List ℕ). length name ≤ 64) names
    → length columns ≡ length names → length (all_pages columns) < 2 ^ 63 → IsColumnFooter (footer_of names rows columns)
footer_is names zero columns some few short same long = record {
  least = omega (arith, length-map names leaf_of);
  most = omega (arith, length-map names leaf_of);
  leaves = leaves_are names short;
  rows = not_negative 0;
  one = omega arith;
  none = λ none. refl;
  all = tt;
  groups = tt;
}
footer_is names (suc rows) columns some few short same long =
    let chunks = chunks_of 4 (suc rows) columns in
    let group : IsColumnGroup (map leaf_of names) (record { rows = pos (suc rows); chunks = chunks }) = record {
      count = count_chunks 4 (suc rows) columns ∙ (same ∙ sym (length-map names leaf_of));
      chunks = chunks_are 4 (suc rows) columns;
      size = omega (arith, sizes_are 4 (suc rows) columns, long);
    } in
    rw (some_rows rows chunks) (record {
      least = omega (arith, length-map names leaf_of);
      most = omega (arith, length-map names leaf_of);
      leaves = leaves_are names short;
      rows = not_negative (suc rows);
      one = omega arith;
      none = λ none. absurd (omega (arith, none));
      all = (refl, tt);
      groups = (group, tt);
    })

-- ---- the ranges of its numbers

fits64 : (n : ℕ) → n < 2 ^ 63 → FitsSigned w64 (pos n)
fits64 n fits = omega (arith, fits)

chunks_fit : (place rows : ℕ) (columns : List (List ℤ)) → place + length (all_pages columns) < 2 ^ 63 → rows < 2 ^ 63 → AllByRecursion ChunkFits (chunks_of place rows columns)
chunks_fit place rows [] long rows_fit = tt
chunks_fit place rows (numbers ∷ columns) long rows_fit =
    let now = column_pages numbers in
    let whole : length (now ++ all_pages columns) ≡ length now + length (all_pages columns) = length-append now (all_pages columns) in
    let size : FitsSigned w64 (pos (length now)) = fits64 (length now) (omega (arith, whole, long)) in (
      record { codec = omega arith; values = fits64 rows rows_fit; plain_size = size; stored_size = size; data_page = fits64 place (omega (arith, long)) },
      chunks_fit (place + length now) rows columns (omega (arith, whole, long)) rows_fit,
    )

groups_fit : (rows : ℕ) (columns : List (List ℤ)) → 4 + length (all_pages columns) < 2 ^ 63 → rows < 2 ^ 63 → AllByRecursion (λ (group : GroupRecord). AllByRecursion ChunkFits group.chunks) (groups_of rows (chunks_of 4 rows columns))
groups_fit zero columns long rows_fit = tt
groups_fit (suc rows) columns long rows_fit = rw (some_rows rows (chunks_of 4 (suc rows) columns)) (chunks_fit 4 (suc rows) columns long rows_fit, tt)

pub footer_fits : (names : List (List ℕ)) (rows : ℕ) (columns : List (List ℤ)) → IsTable names rows columns → FooterFits (footer_of names rows columns)
footer_fits names rows columns is = record { rows = fits64 rows is.rows_fit; chunks = groups_fit rows columns is.long is.rows_fit }
