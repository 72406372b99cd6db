-- The columns that are read have equally many values: as many as the row groups have rows.
use Rattle.std.proofs.Common.{◌≡◌, ℕ, ℤ, zero, suc, pos, ◌+◌, ◌-◌, ◌≤◌, List, [], ◌∷◌, ◌++◌, length, map, slice_get, not, Bool, true, false, cond, ◌&&◌, leb, ltb, Option, None, Result, Ok, Err, IfOk, refl, sym, ap, subst, ◌∙◌, arith, length-append}
use Rattle.std.specs.Ordering.{int_eq}
use Rattle.std.proofs.lemmas.Bool.Decides.{nat_tests}
use Rattle.hx_pqmeta.specs.declared.chunk.Chunk.{Chunk}
use Rattle.hx_pqmeta.specs.declared.refusal.PqRefusal.{PqRefusal}
use Rattle.hx_pqmeta.specs.declared.refusal.PqRefusal.TheVariants.{Codec, Encoding, Bounds}
use Rattle.hx_pqmeta.specs.Records.{GroupRecord, FooterRecord}
use Rattle.hx_thrift.specs.Texts.{◌>>=◌}
use Rattle.hx_pqmeta.specs.Refusals.{needed, each, AnswersOrWants}
use Rattle.hx_pqmeta.specs.Naturals.{natural}
use Rattle.hx_pqmeta.specs.Footers.{is_above_zero, rows_of, footer_in}
use Rattle.hx_pqmeta.specs.PageHeaders.{page_head_at}
use Rattle.hx_pqread.specs.declared.layout.Asked.{Asked}
use Rattle.hx_pqread.specs.declared.layout.Layout.{Layout}
use Rattle.hx_pqread.specs.declared.chunk.Span.{Span}
use Rattle.hx_pqread.specs.Pages.{text_from, bounded, page_behind, page_at, pages_at}
use Rattle.hx_pqread.specs.Values.{present, first_absent}
use Rattle.hx_pqread.specs.Columns.{places_of, only, layout_of, span_with, meta_checked, chunk_span, group_span, spans_at, values_of, column_at, columns_at, least_absent, unless_absent, columns_in, HaveRows}
use Rattle.hx_pqread.proofs.Chains.{bind_ok, accepted, same, page_behind_sound}
use Rattle.hx_pqread.proofs.Spreading.{length_there}
use Rattle.hx_pqread.proofs.Whole.{lesser_none, there, kept_all}

pub page_few : (asked : Asked) (left place : ℕ) (file : List ℕ) (values : List (Option ℤ)) (next : ℕ) → page_at asked left place file ≡ Ok (values, next) → length values ≤ left
unfolding page_at
page_few asked left place file values next e =
    let text = text_from asked.end place file in
    let a = accepted (leb 4 place && ltb place asked.end) (Bounds asked.column) (page_head_at text >>= λ head. page_behind asked left head file) (values, next) e in
    let head = bind_ok (page_head_at text) (λ head. page_behind asked left head file) (values, next) a.1 in
    (page_behind_sound asked left head.0 file values next head.2).1.few

pub pages_length : (asked : Asked) (most left place : ℕ) (file : List ℕ) (values : List (Option ℤ)) → pages_at asked most left place file ≡ Ok values → length values ≡ left
unfolding pages_at
pages_length asked zero zero place file values e = ap length (sym (same [] values (Ok []) (Ok values) refl refl e))
pages_length asked (suc most) zero place file values e = ap length (sym (same [] values (Ok []) (Ok values) refl refl e))
pages_length asked zero (suc left) place file values e = absurd cc
pages_length asked (suc most) (suc left) place file values e =
    let page = bind_ok (page_at asked (suc left) place file) (λ page. pages_at asked most (suc left - length page.0) page.1 file >>= λ more. Ok (page.0 ++ more)) values e in
    let more = bind_ok (pages_at asked most (suc left - length page.0.0) page.0.1 file) (λ more. Ok (page.0.0 ++ more)) values page.2 in
    let whole : page.0.0 ++ more.0 ≡ values = same (page.0.0 ++ more.0) values (Ok (page.0.0 ++ more.0)) (Ok values) refl refl more.2 in
    let few = page_few asked (suc left) place file page.0.0 page.0.1 page.1 in
    let others = pages_length asked most (suc left - length page.0.0) page.0.1 file more.0 more.1 in
    ap length (sym whole) ∙ (length-append page.0.0 more.0 ∙ omega (arith, few, others))

spans_length : (asked : Asked) (spans : List Span) (file : List ℕ) (values : List (Option ℤ)) → spans_at asked spans file ≡ Ok values → length values ≡ values_of spans
spans_length asked [] file values e = ap length (sym (same [] values (Ok []) (Ok values) refl refl e))
spans_length asked (span ∷ spans) file values e =
    let front = bind_ok (pages_at asked asked.end span.count span.place file) (λ front. spans_at asked spans file >>= λ more. Ok (front ++ more)) values e in
    let more = bind_ok (spans_at asked spans file) (λ more. Ok (front.0 ++ more)) values front.2 in
    let whole : front.0 ++ more.0 ≡ values = same (front.0 ++ more.0) values (Ok (front.0 ++ more.0)) (Ok values) refl refl more.2 in
    let first = pages_length asked asked.end span.count span.place file front.0 front.1 in
    let others = spans_length asked spans file more.0 more.1 in
    ap length (sym whole) ∙ (length-append front.0 more.0 ∙ omega (arith, first, others))

passed : {A : Type 0} (b : Bool) (refusal : PqRefusal) (x : Result A PqRefusal) (y : A) → cond b (Err refusal) x ≡ Ok y → x ≡ Ok y
passed true refusal x y e = absurd cc
passed false refusal x y e = e

span_rows : (column : ℕ) (rows codec values data_page : ℤ) (dictionary_page : Option ℤ) (span : Span) → span_with column rows codec values data_page dictionary_page ≡ Ok span → span.count ≡ natural rows
span_rows column rows codec values data_page dictionary_page span e =
    let made : Span = record { place = natural data_page; count = natural values } in
    let all : Result Span PqRefusal = cond (int_eq values rows) (Ok made) (Err (Bounds column)) in
    let one = passed (not (int_eq codec (pos 0))) (Codec column) (cond (is_above_zero dictionary_page) (Err (Encoding column)) all) span e in
    let two = passed (is_above_zero dictionary_page) (Encoding column) all span one in
    let a = accepted (int_eq values rows) (Bounds column) (Ok made) span two in
    let test = a.0 in
    let same_rows : values ≡ rows = grind (arith, nat_tests) in
    ap (λ (s : Span). s.count) (sym (same made span (Ok made) (Ok span) refl refl a.1)) ∙ ap natural same_rows

chunk_rows : (column : ℕ) (rows : ℤ) (chunk : Chunk) (span : Span) → chunk_span column rows chunk ≡ Ok span → span.count ≡ natural rows
unfolding chunk_span
chunk_rows column rows chunk span e =
    let fields = passed chunk.has_path (Bounds column) (meta_checked chunk.has_meta >>= λ has_meta. needed 504 chunk.codec >>= λ codec. needed 505 chunk.values >>= λ values. needed 509 chunk.data_page >>= λ data_page. span_with column rows codec values data_page chunk.dictionary_page) span e in
    let meta = bind_ok (meta_checked chunk.has_meta) (λ has_meta. needed 504 chunk.codec >>= λ codec. needed 505 chunk.values >>= λ values. needed 509 chunk.data_page >>= λ data_page. span_with column rows codec values data_page chunk.dictionary_page) span fields in
    let codec = bind_ok (needed 504 chunk.codec) (λ codec. needed 505 chunk.values >>= λ values. needed 509 chunk.data_page >>= λ data_page. span_with column rows codec values data_page chunk.dictionary_page) span meta.2 in
    let values = bind_ok (needed 505 chunk.values) (λ values. needed 509 chunk.data_page >>= λ data_page. span_with column rows codec.0 values data_page chunk.dictionary_page) span codec.2 in
    let data_page = bind_ok (needed 509 chunk.data_page) (λ data_page. span_with column rows codec.0 values.0 data_page chunk.dictionary_page) span values.2 in
    span_rows column rows codec.0 values.0 data_page.0 chunk.dictionary_page span data_page.2

group_rows : (column place : ℕ) (group : GroupRecord) (span : Span) → group_span column place group ≡ Ok span → span.count ≡ natural group.rows
unfolding group_span
group_rows column place group span e =
    let chunk = bind_ok (bounded column (slice_get group.chunks place)) (λ chunk. chunk_span column group.rows chunk) span e in
    chunk_rows column group.rows chunk.0 span chunk.2

pub groups_rows : (column place : ℕ) (groups : List GroupRecord) (spans : List Span) → each (group_span column place) groups ≡ Ok spans → values_of spans ≡ rows_of groups
groups_rows column place [] spans e = ap values_of (sym (same [] spans (Ok []) (Ok spans) refl refl e))
groups_rows column place (group ∷ groups) spans e =
    let span = bind_ok (group_span column place group) (λ span. each (group_span column place) groups >>= λ others. Ok (span ∷ others)) spans e in
    let others = bind_ok (each (group_span column place) groups) (λ others. Ok (span.0 ∷ others)) spans span.2 in
    let whole : span.0 ∷ others.0 ≡ spans = same (span.0 ∷ others.0) spans (Ok (span.0 ∷ others.0)) (Ok spans) refl refl others.2 in
    let first = group_rows column place group span.0 span.1 in
    let rest = groups_rows column place groups others.0 others.1 in
    ap values_of (sym whole) ∙ omega (arith, first, rest)

abbrev asked_as : ℕ → Layout → ℕ → Asked
asked_as column layout end = record { column = column; layout = layout; end = end }

column_length : (footer : FooterRecord) (file : List ℕ) (column : ℕ) (name : List ℕ) (values : List (Option ℤ)) → column_at footer file column name ≡ Ok values → length values ≡ rows_of footer.groups
unfolding column_at
column_length footer file column name values e =
    let asked = λ (layout : Layout). asked_as column layout footer.start in
    let place = bind_ok (only column (places_of name 0 footer.leaves)) (λ place. layout_of column (slice_get footer.leaves place) >>= λ layout. each (group_span column place) footer.groups >>= λ spans. spans_at (asked layout) spans file) values e in
    let layout = bind_ok (layout_of column (slice_get footer.leaves place.0)) (λ layout. each (group_span column place.0) footer.groups >>= λ spans. spans_at (asked layout) spans file) values place.2 in
    let spans = bind_ok (each (group_span column place.0) footer.groups) (λ spans. spans_at (asked layout.0) spans file) values layout.2 in
    spans_length (asked layout.0) spans.0 file values spans.2 ∙ groups_rows column place.0 footer.groups spans.0 spans.1

-- ---- all columns

abbrev AllRows : ℕ → List (List ℤ) → Type 0
AllRows rows [] = Unit {0}
AllRows rows (list ∷ lists) = (length list ≡ rows) × AllRows rows lists

columns_lengths : (footer : FooterRecord) (file : List ℕ) (column : ℕ) (names : List (List ℕ)) (columns : List (List (Option ℤ))) → columns_at footer file column names ≡ Ok columns → least_absent columns ≡ None
    → (length (map present columns) ≡ length names) × AllRows (rows_of footer.groups) (map present columns)
columns_lengths footer file column [] [] e none = (refl, tt)
columns_lengths footer file column [] (values ∷ columns) e none = absurd cc
columns_lengths footer file column (name ∷ names) columns e none =
    let values = bind_ok (column_at footer file column name) (λ values. columns_at footer file (column + 1) names >>= λ more. Ok (values ∷ more)) columns e in
    let more = bind_ok (columns_at footer file (column + 1) names) (λ more. Ok (values.0 ∷ more)) columns values.2 in
    let whole : values.0 ∷ more.0 ≡ columns = same (values.0 ∷ more.0) columns (Ok (values.0 ∷ more.0)) (Ok columns) refl refl more.2 in
    let absent = lesser_none (first_absent 1 values.0) (least_absent more.0) (ap least_absent whole ∙ none) in
    let others = columns_lengths footer file (column + 1) names more.0 more.1 absent.1 in
    let first : length (present values.0) ≡ rows_of footer.groups = sym (length_there (present values.0)) ∙ (ap length (there 1 values.0 absent.0) ∙ column_length footer file column name values.0 values.1) in
    subst (λ (columns : List (List (Option ℤ))). (length (map present columns) ≡ suc (length names)) × AllRows (rows_of footer.groups) (map present columns)) whole
    (ap suc others.0, (first, others.1))

by_index : (rows : ℕ) (lists : List (List ℤ)) → AllRows rows lists → HaveRows rows lists
by_index rows [] h i below = absurd (omega (arith, below))
by_index rows (list ∷ lists) h zero below = h.0
by_index rows (list ∷ lists) h (suc i) below = by_index rows lists h.1 i (omega (arith, below))

-- the columns of a file have as many values as its footer tells
pub footer_lengths : (file : List ℕ) (names : List (List ℕ)) (lists : List (List ℤ)) → columns_in file names ≡ Ok lists
    → (footer : FooterRecord) × (footer_in file ≡ Ok footer) × (length lists ≡ length names) × HaveRows (rows_of footer.groups) lists
unfolding columns_in
footer_lengths file names lists e =
    let footer = bind_ok (footer_in file) (λ footer. columns_at footer file 0 names >>= λ columns. unless_absent (least_absent columns) (map present columns)) lists e in
    let columns = bind_ok (columns_at footer.0 file 0 names) (λ columns. unless_absent (least_absent columns) (map present columns)) lists footer.2 in
    let kept = kept_all (least_absent columns.0) (map present columns.0) lists columns.2 in
    let h = columns_lengths footer.0 file 0 names columns.0 columns.1 kept.0 in
    (footer.0, footer.1, ap length (sym kept.1) ∙ h.0, by_index (rows_of footer.0.groups) lists (subst (λ (lists : List (List ℤ)). AllRows (rows_of footer.0.groups) lists) kept.1 h.1))

pub whole_lengths : (file : List ℕ) (names : List (List ℕ)) (lists : List (List ℤ)) → columns_in file names ≡ Ok lists → (length lists ≡ length names) × (rows : ℕ) × HaveRows rows lists
whole_lengths file names lists e = let h = footer_lengths file names lists e in (h.2, rows_of h.0.groups, h.3)

-- what holds of each value that may be answered
pub if_ok : {X Y : Type 0} (result : Result X PqRefusal) (view : X → Y) (wanted : Result Y PqRefusal) (P : X → Type 0) → AnswersOrWants view result wanted → ((x : X) → wanted ≡ Ok (view x) → P x) → IfOk result P
if_ok (Ok x) view wanted P h holds = holds x h
if_ok (Err refusal) view wanted P h holds = tt
