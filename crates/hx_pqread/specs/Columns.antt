-- The columns of a whole file: their values, or the first refusal.
use Rattle.std.specs.Prelude.{◌≡◌, ◌⊎◌, ℕ, ℤ, ◌+◌, ◌<◌, List, [], ◌∷◌, ◌++◌, length, map, min, Bool, true, false, not, nat_eq, slice_get, slice_index_or, Option, Some, None, Result, Ok, Err, if◌then◌else◌}
use Rattle.std.specs.Cmp.Lexicographic.{pointwise}
use Rattle.std.specs.Ordering.{int_eq}
use Rattle.hx_pqmeta.specs.declared.chunk.Chunk.{Chunk}
use Rattle.hx_pqmeta.specs.declared.refusal.PqRefusal.{PqRefusal}
use Rattle.hx_pqmeta.specs.declared.refusal.PqRefusal.TheVariants.{Memory, Column, Codec, Encoding, Bounds, Null, Missing}
use Rattle.hx_pqmeta.specs.Enumerations.{int32_type, int64_type, optional, uncompressed}
use Rattle.hx_pqmeta.specs.Records.{LeafRecord, GroupRecord, FooterRecord}
use Rattle.hx_thrift.specs.Texts.{◌>>=◌}
use Rattle.hx_pqmeta.specs.Refusals.{needed, each}
use Rattle.hx_pqmeta.specs.Footers.{is_above_zero, footer_in}
use Rattle.hx_pqmeta.specs.Naturals.{natural}
use Rattle.hx_pqread.specs.declared.layout.Asked.{Asked}
use Rattle.hx_pqread.specs.declared.layout.Layout.{Layout}
use Rattle.hx_pqread.specs.declared.chunk.Span.{Span}
use Rattle.hx_pqread.specs.Values.{present, first_absent}
use Rattle.hx_pqread.specs.Pages.{bounded, pages_at}

-- ---- the leaf of a name

-- the places of the leaves with a name, where the first leaf has the place at
abbrev pub places_of : (name : List ℕ) → (at : ℕ) → List LeafRecord → List ℕ
places_of name at [] = []
places_of name at (leaf ∷ leaves) = if pointwise nat_eq leaf.name name then at ∷ places_of name (at + 1) leaves else places_of name (at + 1) leaves

-- the one place, where there is exactly one
abbrev pub only : (column : ℕ) → List ℕ → Result ℕ PqRefusal
only column [] = Err (Column column)
only column (place ∷ []) = Ok place
only column (place ∷ other ∷ places) = Err (Column column)

-- INT32 is type 1, INT64 type 2; no other type is read
abbrev pub is_wide_kind : (column : ℕ) → Option ℤ → Result Bool PqRefusal
is_wide_kind column None = Err (Column column)
is_wide_kind column (Some kind) = if int_eq kind int32_type then Ok false else if int_eq kind int64_type then Ok true else Err (Column column)

-- how the values of a leaf stand: repetition 1 is OPTIONAL
unfoldable pub layout_of : (column : ℕ) → Option LeafRecord → Result Layout PqRefusal
layout_of column None = Err (Column column)
layout_of column (Some leaf) = do
  is_wide ← is_wide_kind column leaf.kind
  Ok (record { is_wide = is_wide; is_optional = int_eq leaf.repetition optional })

-- ---- the chunks of a leaf

-- Where the values of a chunk stand whose meta data has these fields: it isn't compressed, has no dictionary, and as many values as the row group has rows.
abbrev pub span_with : (column : ℕ) → (rows codec values data_page : ℤ) → (dictionary_page : Option ℤ) → Result Span PqRefusal
span_with column rows codec values data_page dictionary_page =
    if not (int_eq codec uncompressed) then Err (Codec column)
    else if is_above_zero dictionary_page then Err (Encoding column)
    else if int_eq values rows then Ok (record { place = natural data_page; count = natural values })
    else Err (Bounds column)

-- a chunk has to have meta data
abbrev pub meta_checked : Bool → Result Bool PqRefusal
meta_checked has_meta = if has_meta then Ok true else Err (Missing 403)

-- where the values of a chunk of a row group with so many rows stand, which is in this file
unfoldable pub chunk_span : (column : ℕ) → (rows : ℤ) → Chunk → Result Span PqRefusal
chunk_span column rows chunk =
    if chunk.has_path then Err (Bounds column) else (do
      has_meta ← meta_checked chunk.has_meta
      codec ← needed 504 chunk.codec
      values ← needed 505 chunk.values
      data_page ← needed 509 chunk.data_page
      span_with column rows codec values data_page chunk.dictionary_page)

-- the like for the chunk of the leaf at a place
unfoldable pub group_span : (column place : ℕ) → GroupRecord → Result Span PqRefusal
group_span column place group = do
  chunk ← bounded column (slice_get group.chunks place)
  chunk_span column group.rows chunk

-- the values of spans, one after another
abbrev pub spans_at : Asked → List Span → List ℕ → Result (List (Option ℤ)) PqRefusal
spans_at asked [] file = Ok []
spans_at asked (span ∷ spans) file = do
  front ← pages_at asked asked.end span.count span.place file
  more ← spans_at asked spans file
  Ok (front ++ more)

-- how many values spans have
abbrev pub values_of : List Span → ℕ
values_of [] = 0
values_of (span ∷ spans) = span.count + values_of spans

-- ---- columns

-- the values of the column of a name: first its leaf, then its chunk in each row group, then the pages of each
unfoldable pub column_at : FooterRecord → (file : List ℕ) → (column : ℕ) → (name : List ℕ) → Result (List (Option ℤ)) PqRefusal
column_at footer file column name = do
  place ← only column (places_of name 0 footer.leaves)
  layout ← layout_of column (slice_get footer.leaves place)
  spans ← each (group_span column place) footer.groups
  spans_at (record { column = column; layout = layout; end = footer.start }) spans file

-- the columns of these names, the first of which has the place column in the list of all names
abbrev pub columns_at : FooterRecord → (file : List ℕ) → (column : ℕ) → (names : List (List ℕ)) → Result (List (List (Option ℤ))) PqRefusal
columns_at footer file column [] = Ok []
columns_at footer file column (name ∷ names) =
    column_at footer file column name >>= λ values. columns_at footer file (column + 1) names >>= λ more. Ok (values ∷ more)

-- ---- absent values

-- the lesser of two rows, either of which may be absent
abbrev pub lesser : Option ℕ → Option ℕ → Option ℕ
lesser None other = other
lesser (Some row) None = Some row
lesser (Some row) (Some other) = Some (min row other)

-- the least row at which one of the columns has no value; rows count from 1
abbrev pub least_absent : List (List (Option ℤ)) → Option ℕ
least_absent [] = None
least_absent (values ∷ columns) = lesser (first_absent 1 values) (least_absent columns)

-- the columns, where no row lacks a value
abbrev pub unless_absent : Option ℕ → List (List ℤ) → Result (List (List ℤ)) PqRefusal
unless_absent None columns = Ok columns
unless_absent (Some row) columns = Err (Null row)

-- the columns of these names of a whole file, none of whose values is absent
unfoldable pub columns_in : (file : List ℕ) → (names : List (List ℕ)) → Result (List (List ℤ)) PqRefusal
columns_in file names = do
  footer ← footer_in file
  columns ← columns_at footer file 0 names
  unless_absent (least_absent columns) (map present columns)

-- A call has answered, of columns that are read, the values that are there and the least row at which one is absent; or the first refusal; or want of memory.
abbrev pub AnswersColumns : {X : Type 0} → (lists : X → List (List ℤ)) → (absent : X → Option ℕ) → Result X PqRefusal → Result (List (List (Option ℤ))) PqRefusal → Type 0
AnswersColumns lists absent (Ok x) read = (columns : List (List (Option ℤ))) × (read ≡ Ok columns) × (lists x ≡ map present columns) × (absent x ≡ least_absent columns)
AnswersColumns lists absent (Err refusal) read = (refusal ≡ Memory) ⊎ (read ≡ Err refusal)

-- each of the lists has so many rows
abbrev pub HaveRows : (rows : ℕ) → List (List ℤ) → Type 0
HaveRows rows lists = (i : ℕ) → i < length lists → length (slice_index_or lists i []) ≡ rows
