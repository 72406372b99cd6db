-- Reading columns, and columns that a file has, are one.
use Rattle.std.proofs.Common.{◌≡◌, ℕ, ℤ, ◌+◌, List, [], ◌∷◌, ◌++◌, map, slice_get, Option, Some, None, Result, Ok, Err, refl, sym, ap, subst, ◌∙◌, arith}
use Rattle.hx_pqmeta.specs.declared.refusal.PqRefusal.{PqRefusal}
use Rattle.hx_pqmeta.specs.Records.{FooterRecord}
use Rattle.hx_thrift.specs.Texts.{◌>>=◌}
use Rattle.hx_pqmeta.specs.Refusals.{each}
use Rattle.hx_pqmeta.specs.Footers.{footer_in}
use Rattle.hx_pqread.specs.declared.layout.Asked.{Asked}
use Rattle.hx_pqread.specs.declared.layout.Layout.{Layout}
use Rattle.hx_pqread.specs.declared.chunk.Span.{Span}
use Rattle.hx_pqread.specs.Pages.{pages_at}
use Rattle.hx_pqread.specs.Values.{present, first_absent, all_there}
use Rattle.hx_pqread.specs.Columns.{places_of, only, layout_of, group_span, spans_at, column_at, columns_at, lesser, least_absent, unless_absent, columns_in}
use Rattle.hx_pqread.specs.Laws.{AreSpans, IsColumn, AreColumns, HasColumns, refusal_of}
use Rattle.hx_pqread.proofs.Chains.{Below, bind_ok, same, pages_sound, pages_complete}

-- ---- spans

spans_sound : Below → (asked : Asked) (spans : List Span) (file : List ℕ) (values : List (Option ℤ)) → spans_at asked spans file ≡ Ok values → AreSpans asked file spans values
spans_sound law asked [] file values e = sym (same [] values (Ok []) (Ok values) refl refl e)
spans_sound law asked (span ∷ spans) file values e =
    let front = bind_ok (pages_at asked asked.end span.count span.place file) (λ front. spans_at asked spans file >>= λ more. Ok (front ++ more)) values e in
    let more = bind_ok (spans_at asked spans file) (λ more. Ok (front.0 ++ more)) values front.2 in
    let pages = pages_sound law asked asked.end span.count span.place file front.0 front.1 in
    (front.0, more.0, record { places = pages.0; pages = pages.1; count = pages.2; none = pages.3 }, spans_sound law asked spans file more.0 more.1, sym (same (front.0 ++ more.0) values (Ok (front.0 ++ more.0)) (Ok values) refl refl more.2))

spans_complete : Below → (asked : Asked) (spans : List Span) (file : List ℕ) (values : List (Option ℤ)) → AreSpans asked file spans values → spans_at asked spans file ≡ Ok values
spans_complete law asked [] file values h = ap (λ (xs : List (Option ℤ)). Ok xs) (sym h)
spans_complete law asked (span ∷ spans) file values h =
    let pages = pages_complete law asked h.2.places asked.end span.count span.place file h.0 h.2.pages h.2.count (omega arith) in
    rw (pages, spans_complete law asked spans file h.1 h.3, h.4) refl

-- ---- a column

only_ok : (column : ℕ) (places : List ℕ) (place : ℕ) → only column places ≡ Ok place → places ≡ place ∷ []
only_ok column [] place e = absurd cc
only_ok column (first ∷ []) place e = ap (λ (n : ℕ). n ∷ []) (same first place (Ok first) (Ok place) refl refl e)
only_ok column (first ∷ other ∷ places) place e = absurd cc

abbrev asked_of : FooterRecord → ℕ → Layout → Asked
asked_of footer column layout = record { column = column; layout = layout; end = footer.start }

pub column_sound : Below → (footer : FooterRecord) (file : List ℕ) (column : ℕ) (name : List ℕ) (values : List (Option ℤ)) → column_at footer file column name ≡ Ok values → IsColumn footer file column name values
unfolding column_at
column_sound law footer file column name values e =
    let place = bind_ok (only column (places_of name 0 footer.leaves)) (λ place. layout_of column (slice_get footer.leaves place) >>= λ layout. each (group_span column place) footer.groups >>= λ spans. spans_at (asked_of footer column layout) spans file) values e in
    let layout = bind_ok (layout_of column (slice_get footer.leaves place.0)) (λ layout. each (group_span column place.0) footer.groups >>= λ spans. spans_at (asked_of footer column layout) spans file) values place.2 in
    let spans = bind_ok (each (group_span column place.0) footer.groups) (λ spans. spans_at (asked_of footer column layout.0) spans file) values layout.2 in
    record {
      place = place.0;
      leaf = only_ok column (places_of name 0 footer.leaves) place.0 place.1;
      layout = layout.0;
      kind = layout.1;
      spans = spans.0;
      chunks = spans.1;
      pages = spans_sound law (asked_of footer column layout.0) spans.0 file values spans.2;
    }

pub column_complete : Below → (footer : FooterRecord) (file : List ℕ) (column : ℕ) (name : List ℕ) (values : List (Option ℤ)) → IsColumn footer file column name values → column_at footer file column name ≡ Ok values
unfolding column_at
column_complete law footer file column name values p =
    rw (p.leaf, p.kind, p.chunks) (spans_complete law (asked_of footer column p.layout) p.spans file values p.pages)

-- ---- values none of which is absent

pub lesser_none : (a b : Option ℕ) → lesser a b ≡ None → (a ≡ None) × (b ≡ None)
lesser_none None b e = (refl, e)
lesser_none (Some a) None e = absurd cc
lesser_none (Some a) (Some b) e = absurd cc

pub there : (row : ℕ) (values : List (Option ℤ)) → first_absent row values ≡ None → all_there (present values) ≡ values
there row [] e = refl
there row (None ∷ values) e = absurd cc
there row (Some n ∷ values) e = ap (λ (xs : List (Option ℤ)). Some n ∷ xs) (there (row + 1) values e)

there_again : (row : ℕ) (numbers : List ℤ) → first_absent row (all_there numbers) ≡ None
there_again row [] = refl
there_again row (n ∷ numbers) = there_again (row + 1) numbers

present_again : (numbers : List ℤ) → present (all_there numbers) ≡ numbers
present_again [] = refl
present_again (n ∷ numbers) = ap (λ (xs : List ℤ). n ∷ xs) (present_again numbers)

least_again : (lists : List (List ℤ)) → least_absent (map all_there lists) ≡ None
least_again [] = refl
least_again (numbers ∷ lists) = rw (there_again 1 numbers, least_again lists) refl

all_again : (lists : List (List ℤ)) → map present (map all_there lists) ≡ lists
all_again [] = refl
all_again (numbers ∷ lists) = rw (present_again numbers, all_again lists) refl

-- ---- the columns of names

columns_sound : Below → (footer : FooterRecord) (file : List ℕ) (column : ℕ) (names : List (List ℕ)) (columns : List (List (Option ℤ))) → columns_at footer file column names ≡ Ok columns → least_absent columns ≡ None
    → AreColumns footer file column names (map present columns)
columns_sound law footer file column [] [] e none = tt
columns_sound law footer file column [] (values ∷ columns) e none = absurd cc
columns_sound law footer file column (name ∷ names) columns e none =
    let values = bind_ok (column_at footer file column name) (λ values. columns_at footer file (column + 1) names >>= λ more. Ok (values ∷ more)) columns e in
    let more = bind_ok (columns_at footer file (column + 1) names) (λ more. Ok (values.0 ∷ more)) columns values.2 in
    let whole : values.0 ∷ more.0 ≡ columns = same (values.0 ∷ more.0) columns (Ok (values.0 ∷ more.0)) (Ok columns) refl refl more.2 in
    let absent = lesser_none (first_absent 1 values.0) (least_absent more.0) (ap least_absent whole ∙ none) in
    let first = column_sound law footer file column name values.0 values.1 in
    let others = columns_sound law footer file (column + 1) names more.0 more.1 absent.1 in
    subst (λ (columns : List (List (Option ℤ))). AreColumns footer file column (name ∷ names) (map present columns)) whole
    (subst (λ (values : List (Option ℤ)). IsColumn footer file column name values) (sym (there 1 values.0 absent.0)) first, others)

columns_complete : Below → (footer : FooterRecord) (file : List ℕ) (column : ℕ) (names : List (List ℕ)) (lists : List (List ℤ)) → AreColumns footer file column names lists
    → columns_at footer file column names ≡ Ok (map all_there lists)
columns_complete law footer file column [] [] h = refl
columns_complete law footer file column [] (numbers ∷ lists) h = absurd h
columns_complete law footer file column (name ∷ names) [] h = absurd h
columns_complete law footer file column (name ∷ names) (numbers ∷ lists) h =
    rw (column_complete law footer file column name (all_there numbers) h.0, columns_complete law footer file (column + 1) names lists h.1) refl

pub kept_all : (absent : Option ℕ) (lists read : List (List ℤ)) → unless_absent absent lists ≡ Ok read → (absent ≡ None) × (lists ≡ read)
kept_all None lists read e = (refl, same lists read (Ok lists) (Ok read) refl refl e)
kept_all (Some row) lists read e = absurd cc

pub whole_sound : Below → (file : List ℕ) (names : List (List ℕ)) (lists : List (List ℤ)) → columns_in file names ≡ Ok lists → HasColumns file names lists
unfolding columns_in
whole_sound law file names lists e =
    let footer = bind_ok (footer_in file) (λ footer. columns_at footer file 0 names >>= λ columns. unless_absent (least_absent columns) (map present columns)) lists e in
    let columns = bind_ok (columns_at footer.0 file 0 names) (λ columns. unless_absent (least_absent columns) (map present columns)) lists footer.2 in
    let kept = kept_all (least_absent columns.0) (map present columns.0) lists columns.2 in
    record {
      footer = footer.0;
      footer_is = footer.1;
      columns = subst (λ (lists : List (List ℤ)). AreColumns footer.0 file 0 names lists) kept.1 (columns_sound law footer.0 file 0 names columns.0 columns.1 kept.0);
    }

pub whole_complete : Below → (file : List ℕ) (names : List (List ℕ)) (lists : List (List ℤ)) → HasColumns file names lists → columns_in file names ≡ Ok lists
unfolding columns_in
whole_complete law file names lists p =
    rw (p.footer_is, columns_complete law p.footer file 0 names lists p.columns, least_again lists, all_again lists) refl

pub some_columns : Below → (file : List ℕ) (names : List (List ℕ)) (read : Result (List (List ℤ)) PqRefusal) → columns_in file names ≡ read → refusal_of read ≡ None → (lists : List (List ℤ)) × HasColumns file names lists
some_columns law file names (Ok lists) is none = (lists, whole_sound law file names lists is)
some_columns law file names (Err refusal) is none = absurd cc
