-- A file that is written of a table has its columns.
use Rattle.std.proofs.Common.{◌≡◌, ℕ, zero, suc, ◌+◌, ◌*◌, ◌<◌, ◌≤◌, ℤ, pos, List, [], ◌∷◌, ◌++◌, length, map, true, Option, Some, Ok, refl, sym, ap, ◌∙◌, arith, append_assoc, length-append}
use Rattle.std.specs.Prelude.{slice_get}
use Rattle.std.specs.List.{AllByRecursion}
use Rattle.std.specs.Ordering.{int_eq}
use Rattle.std.proofs.lemmas.Bool.Decides.{nat_tests}
use Rattle.std.proofs.lemmas.List.{append-nil}
use Rattle.hx_pqmeta.specs.declared.chunk.Chunk.{Chunk}
use Rattle.hx_pqmeta.specs.Records.{LeafRecord, GroupRecord, FooterRecord}
use Rattle.hx_pqmeta.specs.Refusals.{each}
use Rattle.hx_pqmeta.specs.Footers.{magic, footer_in}
use Rattle.hx_pqmeta.specs.Writing.{footer_tail, SpellsPageHeaders, KeepsPageHeaders, ReadsFooters}
use Rattle.hx_pqread.specs.declared.chunk.Span.{Span}
use Rattle.hx_pqread.specs.Columns.{places_of, layout_of, chunk_span, group_span}
use Rattle.hx_pqread.specs.Values.{all_there}
use Rattle.hx_pqread.specs.Laws.{IsSpan, IsColumn, AreColumns}
use Rattle.hx_pqwrite.specs.Files.{page_rows, page_count, column_pages, all_pages, leaf_of, chunk_of, chunks_of, footer_of, file_of}
use Rattle.hx_pqwrite.specs.Tables.{IsWritable, IsTable, ReadsTables}
use Rattle.hx_pqwrite.proofs.Found.{AreFound, are_found}
use Rattle.hx_pqwrite.proofs.Footers.{one_group, some_rows, footer_is, footer_fits}
use Rattle.hx_pqwrite.proofs.Bodies.{plain_layout, length_there}
use Rattle.hx_pqwrite.proofs.Standing.{asked_for, pages_stand}

seam : {A : Type 0} (front : List A) (x : A) (rest : List A) → slice_get (front ++ x ∷ rest) (length front) ≡ Some x
seam [] x rest = refl
seam (y ∷ front) x rest = seam front x rest

same_int : (n : ℕ) → int_eq (pos n) (pos n) ≡ true
same_int n = grind (arith, nat_tests)

span_of : (column place rows size : ℕ) → chunk_span column (pos rows) (chunk_of place rows size) ≡ Ok (record { place = place; count = rows })
unfolding chunk_span
span_of column place rows size = rw (same_int rows) refl

layout_is : (column : ℕ) (name : List ℕ) → layout_of column (Some (leaf_of name)) ≡ Ok plain_layout
unfolding layout_of
layout_is column name = refl

group_is : (column rows : ℕ) (front : List Chunk) (chunk : Chunk) (rest : List Chunk) (span : Span) → length front ≡ column → chunk_span column (pos rows) chunk ≡ Ok span
    → group_span column column (record { rows = pos rows; chunks = front ++ chunk ∷ rest }) ≡ Ok span
unfolding group_span
group_is column rows front chunk rest span at is =
    let found : slice_get (front ++ chunk ∷ rest) column ≡ Some chunk = ap (λ (k : ℕ). slice_get (front ++ chunk ∷ rest) k) (sym at) ∙ seam front chunk rest in
    rw (found, is) refl

enough : (rows : ℕ) → rows ≤ page_count rows * page_rows
enough rows = omega arith

columns_stand : SpellsPageHeaders → KeepsPageHeaders → (all : List (List ℕ)) (rows : ℕ) → 0 < rows → (footer : FooterRecord) (file more : List ℕ)
    → footer.leaves ≡ map leaf_of all
    → (names : List (List ℕ)) (columns : List (List ℤ)) (at : ℕ) (before : List ℕ) (front : List Chunk) (leaves : List LeafRecord)
    → AreFound all at names → length columns ≡ length names → AllByRecursion (IsWritable rows) columns
    → footer.leaves ≡ leaves ++ map leaf_of names → length leaves ≡ at
    → footer.groups ≡ one_group rows (front ++ chunks_of (length before) rows columns) → length front ≡ at
    → file ≡ before ++ (all_pages columns ++ more) → 4 ≤ length before → length before + length (all_pages columns) ≤ footer.start
    → AreColumns footer file at names columns
columns_stand spells keeps all rows some footer file more all_is [] [] at before front leaves found count fit leaves_are leaves_at groups_are front_at file_is low within = tt
columns_stand spells keeps all rows some footer file more all_is [] (numbers ∷ columns) at before front leaves found count fit leaves_are leaves_at groups_are front_at file_is low within = absurd (omega (arith, count))
columns_stand spells keeps all rows some footer file more all_is (name ∷ names) [] at before front leaves found count fit leaves_are leaves_at groups_are front_at file_is low within = absurd (omega (arith, count))
columns_stand spells keeps all rows some footer file more all_is (name ∷ names) (numbers ∷ columns) at before front leaves found count fit leaves_are leaves_at groups_are front_at file_is low within =
    let now = column_pages numbers in
    let others = all_pages columns in
    let place = length before in
    let chunk = chunk_of place rows (length now) in
    let rest = chunks_of (place + length now) rows columns in
    let span : Span = record { place = place; count = rows } in
    let whole : length (now ++ others) ≡ length now + length others = length-append now others in
    let next : length (before ++ now) ≡ place + length now = length-append before now in
    let first : file ≡ before ++ (now ++ (others ++ more)) = file_is ∙ ap (λ (xs : List ℕ). before ++ xs) (append_assoc now others more) in
    let second : file ≡ (before ++ now) ++ (others ++ more) = first ∙ sym (append_assoc before now (others ++ more)) in
    let numbers_few : length numbers ≤ page_count (length numbers) * page_rows = enough (length numbers) in
    let pages = pages_stand spells keeps at footer.start file (others ++ more) (page_count (length numbers)) before numbers fit.0.fit numbers_few first low (omega (arith, within, whole)) in
    let stands : IsSpan (asked_for at footer.start) file span (all_there numbers) = record {
      places = pages.0;
      pages = pages.1;
      count = length_there numbers ∙ fit.0.count;
      none = λ empty. absurd (omega (arith, some, empty));
    } in
    let leaf_at : slice_get footer.leaves at ≡ Some (leaf_of name) =
    ap (λ (xs : List LeafRecord). slice_get xs at) leaves_are ∙ (ap (λ (k : ℕ). slice_get (leaves ++ map leaf_of (name ∷ names)) k) (sym leaves_at) ∙ seam leaves (leaf_of name) (map leaf_of names)) in
    let span_is : each (group_span at at) footer.groups ≡ Ok (span ∷ []) =
    ap (λ (groups : List GroupRecord). each (group_span at at) groups) groups_are
    ∙ rw (group_is at rows front chunk rest span front_at (span_of at place rows (length now))) refl in
    let column : IsColumn footer file at name (all_there numbers) = record {
      place = at;
      leaf = ap (λ (xs : List LeafRecord). places_of name 0 xs) all_is ∙ found.0;
      layout = plain_layout;
      kind = ap (λ (leaf : Option LeafRecord). layout_of at leaf) leaf_at ∙ layout_is at name;
      spans = span ∷ [];
      chunks = span_is;
      pages = (all_there numbers, [], stands, refl, sym (append-nil (all_there numbers)));
    } in
    let groups_on : footer.groups ≡ one_group rows ((front ++ chunk ∷ []) ++ chunks_of (length (before ++ now)) rows columns) =
    groups_are ∙ ap (λ (chunks : List Chunk). one_group rows chunks) (sym (append_assoc front (chunk ∷ []) rest) ∙ ap (λ (k : ℕ). (front ++ chunk ∷ []) ++ chunks_of k rows columns) (sym next)) in (
      column,
      columns_stand spells keeps all rows some footer file (more) all_is names columns (at + 1) (before ++ now) (front ++ chunk ∷ []) (leaves ++ leaf_of name ∷ [])
          found.1 (omega (arith, count)) fit.1 (leaves_are ∙ sym (append_assoc leaves (leaf_of name ∷ []) (map leaf_of names))) (omega (arith, length-append leaves (leaf_of name ∷ []), leaves_at))
          groups_on (omega (arith, length-append front (chunk ∷ []), front_at)) second (omega (arith, low, next)) (omega (arith, within, whole, next)),
    )

-- without rows there is no group
no_rows : (all : List (List ℕ)) (footer : FooterRecord) (file : List ℕ) → footer.leaves ≡ map leaf_of all → footer.groups ≡ []
    → (names : List (List ℕ)) (columns : List (List ℤ)) (at : ℕ) (leaves : List LeafRecord) → AreFound all at names → length columns ≡ length names → AllByRecursion (IsWritable 0) columns
    → footer.leaves ≡ leaves ++ map leaf_of names → length leaves ≡ at → AreColumns footer file at names columns
no_rows all footer file all_is none [] [] at leaves found count fit leaves_are leaves_at = tt
no_rows all footer file all_is none [] (numbers ∷ columns) at leaves found count fit leaves_are leaves_at = absurd (omega (arith, count))
no_rows all footer file all_is none (name ∷ names) [] at leaves found count fit leaves_are leaves_at = absurd (omega (arith, count))
no_rows all footer file all_is none (name ∷ names) (numbers ∷ columns) at leaves found count fit leaves_are leaves_at =
    let leaf_at : slice_get footer.leaves at ≡ Some (leaf_of name) =
    ap (λ (xs : List LeafRecord). slice_get xs at) leaves_are ∙ (ap (λ (k : ℕ). slice_get (leaves ++ map leaf_of (name ∷ names)) k) (sym leaves_at) ∙ seam leaves (leaf_of name) (map leaf_of names)) in
    let column : IsColumn footer file at name (all_there numbers) = record {
      place = at;
      leaf = ap (λ (xs : List LeafRecord). places_of name 0 xs) all_is ∙ found.0;
      layout = plain_layout;
      kind = ap (λ (leaf : Option LeafRecord). layout_of at leaf) leaf_at ∙ layout_is at name;
      spans = [];
      chunks = ap (λ (groups : List GroupRecord). each (group_span at at) groups) none;
      pages = nothing numbers fit.0.count;
    } in (
      column,
      no_rows all footer file all_is none names columns (at + 1) (leaves ++ leaf_of name ∷ []) found.1 (omega (arith, count)) fit.1
          (leaves_are ∙ sym (append_assoc leaves (leaf_of name ∷ []) (map leaf_of names))) (omega (arith, length-append leaves (leaf_of name ∷ []), leaves_at)),
    )
  where
    nothing : (numbers : List ℤ) → length numbers ≡ 0 → all_there numbers ≡ []
    nothing [] empty = refl
    nothing (n ∷ numbers) empty = absurd (omega (arith, empty))

-- ---- the whole

has_columns : SpellsPageHeaders → KeepsPageHeaders → (names : List (List ℕ)) (rows : ℕ) (columns : List (List ℤ)) → IsTable names rows columns
    → AreColumns (footer_of names rows columns) (file_of names rows columns) 0 names columns
has_columns spells keeps names zero columns is =
    no_rows names (footer_of names 0 columns) (file_of names 0 columns) refl refl names columns 0 [] (are_found names is.differ) is.same_count is.each refl refl
has_columns spells keeps names (suc rows) columns is =
    let footer = footer_of names (suc rows) columns in
    columns_stand spells keeps names (suc rows) (omega arith) footer (file_of names (suc rows) columns) (footer_tail footer) refl names columns 0 magic [] []
    (are_found names is.differ) is.same_count is.each refl refl (some_rows rows (chunks_of 4 (suc rows) columns)) refl (append_assoc magic (all_pages columns) (footer_tail footer)) (omega arith) (omega arith)

pub table_again : SpellsPageHeaders → KeepsPageHeaders → ReadsFooters → ReadsTables
table_again spells keeps footers names rows columns is =
    let footer = footer_of names rows columns in
    let found : footer_in (magic ++ all_pages columns ++ footer_tail footer) ≡ Ok footer = footers footer (all_pages columns) (footer_is names rows columns is.some is.few is.short is.same_count (omega (arith, is.long))) (footer_fits names rows columns is) refl in
    record { footer = footer; footer_is = found; columns = has_columns spells keeps names rows columns is }
