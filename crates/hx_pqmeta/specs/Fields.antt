-- The fields of the structs of a Parquet file, by the entries that were read of each.
-- The entry of a field is the last one with its id and kind; other entries are passed over. A field without an entry is None.
use Rattle.std.specs.Prelude.{ℕ, ℤ, pos, List, [], ◌∷◌, map, Bool, ◌&&◌, ◌==◌, if◌then◌else◌, Option, Some, None}
use Rattle.std.specs.Option.{option_map, option_or, option_and_then, is_some}
use Rattle.std.specs.Ordering.{int_eq}
use Rattle.hx_thrift.specs.Kinds.{i32_kind, i64_kind, binary_kind, list_kind, struct_kind}
use Rattle.hx_thrift.specs.Values.{number, binary, fixed, Entry, Node, leaf, elements, pairs, entries}
use Rattle.hx_pqmeta.specs.declared.chunk.Chunk.{Chunk}
use Rattle.hx_pqmeta.specs.declared.chunk.ColumnMetaData.{ColumnMetaData}
use Rattle.hx_pqmeta.specs.declared.page.DataPageHeader.{DataPageHeader}
use Rattle.hx_pqmeta.specs.declared.page.PageHeader.{PageHeader}
use Rattle.hx_pqmeta.specs.Ids.{file_schema, file_rows, file_groups, element_type, element_repetition, element_name, element_children, group_chunks, group_rows, chunk_path, chunk_meta, meta_codec, meta_values, meta_plain_size, meta_stored_size, meta_data_page, meta_dictionary_page, page_type, page_plain_size, page_stored_size, page_data, data_values, data_encoding, data_levels}
use Rattle.hx_pqmeta.specs.Records.{ElementFields, RowGroupFields, FileFields}

abbrev pub is_entry : (id kind : ℕ) → (entry_id : ℤ) → (entry_kind : ℕ) → Bool
is_entry id kind entry_id entry_kind = int_eq entry_id (pos id) && entry_kind == kind

-- what the last of the entries with the id and kind holds
unfoldable pub last : {A B : Type 0} → (A → Option B) → (id kind : ℕ) → List (Entry A) → Option B
last held id kind [] = None
last held id kind (e ∷ es) = option_or (last held id kind es) (if is_entry id kind e.id e.kind then held e.value else None)

abbrev pub number_of : {A : Type 0} → Node A → Option ℤ
number_of (leaf (number n)) = Some n
number_of (leaf (binary bytes)) = None
number_of (leaf (fixed bytes)) = None
number_of (elements kind xs) = None
number_of (pairs xs) = None
number_of (entries es) = None

abbrev pub bytes_of : {A : Type 0} → Node A → Option (List ℕ)
bytes_of (leaf (number n)) = None
bytes_of (leaf (binary bytes)) = Some bytes
bytes_of (leaf (fixed bytes)) = None
bytes_of (elements kind xs) = None
bytes_of (pairs xs) = None
bytes_of (entries es) = None

abbrev pub entries_of : {A : Type 0} → Node A → Option (List (Entry A))
entries_of (leaf x) = None
entries_of (elements kind xs) = None
entries_of (pairs xs) = None
entries_of (entries es) = Some es

-- the entries of a value of the struct's kind, which has no other form
abbrev pub entries_in : {A : Type 0} → Node A → List (Entry A)
entries_in (leaf x) = []
entries_in (elements kind xs) = []
entries_in (pairs xs) = []
entries_in (entries es) = es

-- Each struct of a list of structs, by its entries. A list of size 0 fits every kind of element.
abbrev pub structs_of : {A : Type 0} → Node (Node A) → Option (List (List (Entry A)))
structs_of (leaf x) = None
structs_of (elements kind []) = Some []
structs_of (elements kind (x ∷ xs)) = if kind == struct_kind then Some (map entries_in (x ∷ xs)) else None
structs_of (pairs xs) = None
structs_of (entries es) = None

-- fields of the kinds i32, i64, binary, struct and list of structs
abbrev pub int32 : {A : Type 0} → ℕ → List (Entry (Node A)) → Option ℤ
int32 id es = last number_of id i32_kind es

abbrev pub int64 : {A : Type 0} → ℕ → List (Entry (Node A)) → Option ℤ
int64 id es = last number_of id i64_kind es

abbrev pub bytes : {A : Type 0} → ℕ → List (Entry (Node A)) → Option (List ℕ)
bytes id es = last bytes_of id binary_kind es

abbrev pub struct : {A : Type 0} → ℕ → List (Entry (Node A)) → Option (List (Entry A))
struct id es = last entries_of id struct_kind es

abbrev pub structs : {A : Type 0} → ℕ → List (Entry (Node (Node A))) → Option (List (List (Entry A)))
structs id es = last structs_of id list_kind es

-- SchemaElement, struct 2
abbrev pub element_of : {A : Type 0} → List (Entry (Node A)) → ElementFields
element_of es = record { kind = int32 element_type es; repetition = int32 element_repetition es; name = bytes element_name es; children = int32 element_children es }

-- ColumnMetaData, struct 5
abbrev pub meta_data_of : {A : Type 0} → List (Entry (Node A)) → ColumnMetaData
meta_data_of es = record {
  codec = int32 meta_codec es;
  values = int64 meta_values es;
  plain_size = int64 meta_plain_size es;
  stored_size = int64 meta_stored_size es;
  data_page = int64 meta_data_page es;
  dictionary_page = int64 meta_dictionary_page es;
}

-- a chunk with its path and its meta data, whose fields are absent where the meta data is
abbrev pub chunk_with : Bool → Option ColumnMetaData → Chunk
chunk_with has_path meta = record {
  has_path = has_path;
  has_meta = is_some meta;
  codec = option_and_then (λ m. m.codec) meta;
  values = option_and_then (λ m. m.values) meta;
  plain_size = option_and_then (λ m. m.plain_size) meta;
  stored_size = option_and_then (λ m. m.stored_size) meta;
  data_page = option_and_then (λ m. m.data_page) meta;
  dictionary_page = option_and_then (λ m. m.dictionary_page) meta;
}

-- ColumnChunk, struct 4
abbrev pub chunk_of : {A : Type 0} → List (Entry (Node (Node A))) → Chunk
chunk_of es = chunk_with (is_some (bytes chunk_path es)) (option_map meta_data_of (struct chunk_meta es))

-- RowGroup, struct 3
abbrev pub row_group_of : {A : Type 0} → List (Entry (Node (Node (Node (Node A))))) → RowGroupFields
row_group_of es = record { chunks = option_map (map chunk_of) (structs group_chunks es); rows = int64 group_rows es }

-- FileMetaData, struct 1
abbrev pub file_of : {A : Type 0} → List (Entry (Node (Node (Node (Node (Node (Node A))))))) → FileFields
file_of es = record {
  schema = option_map (map element_of) (structs file_schema es);
  rows = int64 file_rows es;
  groups = option_map (map row_group_of) (structs file_groups es);
}

-- DataPageHeader, struct 7
abbrev pub data_page_header_of : {A : Type 0} → List (Entry (Node A)) → DataPageHeader
data_page_header_of es = record { values = int32 data_values es; encoding = int32 data_encoding es; levels = int32 data_levels es }

-- PageHeader, struct 6
abbrev pub page_header_of : {A : Type 0} → List (Entry (Node (Node A))) → PageHeader
page_header_of es = record {
  kind = int32 page_type es;
  plain_size = int32 page_plain_size es;
  stored_size = int32 page_stored_size es;
  data_page = option_map data_page_header_of (struct page_data es);
}
