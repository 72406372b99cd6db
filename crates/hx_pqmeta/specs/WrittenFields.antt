-- The fields that are written of the structs of a Parquet file, as entries by ascending id.
-- A number that isn't there is written as 0; it is there in each footer and page header that is to be read back.
use Rattle.std.specs.Prelude.{ℕ, ◌+◌, ℤ, pos, List, [], ◌∷◌, length, map, codes, Option}
use Rattle.std.specs.Option.{unwrap_or}
use Rattle.hx_thrift.specs.Kinds.{i32_kind, i64_kind, binary_kind, list_kind, struct_kind}
use Rattle.hx_thrift.specs.Values.{number, binary, Entry, Node, leaf, elements, entries}
use Rattle.hx_pqmeta.specs.declared.chunk.Chunk.{Chunk}
use Rattle.hx_pqmeta.specs.declared.page.PageHead.{PageHead}
use Rattle.hx_pqmeta.specs.Enumerations.{plain_encoding, rle_encoding}
use Rattle.hx_pqmeta.specs.Ids.{file_version, file_schema, file_rows, file_groups, file_created_by, element_type, element_repetition, element_name, element_children, group_chunks, group_size, group_rows, chunk_offset, chunk_meta, meta_type, meta_encodings, meta_path, meta_codec, meta_values, meta_plain_size, meta_stored_size, meta_data_page, page_type, page_plain_size, page_stored_size, page_data, data_values, data_encoding, data_levels, data_repetition_levels}
use Rattle.hx_pqmeta.specs.Naturals.{natural}
use Rattle.hx_pqmeta.specs.Records.{LeafRecord, GroupRecord, FooterRecord}

abbrev pub or_zero : Option ℤ → ℤ
or_zero n = unwrap_or n (pos 0)

abbrev pub number_value : {A : Type 0} → ℤ → Node A
number_value n = leaf (number n)

abbrev pub bytes_value : {A : Type 0} → List ℕ → Node A
bytes_value bytes = leaf (binary bytes)

-- fields of the kinds i32, i64, binary, struct, list and list of structs
abbrev pub int32_field : {A : Type 0} → ℕ → ℤ → Entry (Node A)
int32_field id n = record { id = pos id; kind = i32_kind; value = number_value n }

abbrev pub int64_field : {A : Type 0} → ℕ → ℤ → Entry (Node A)
int64_field id n = record { id = pos id; kind = i64_kind; value = number_value n }

abbrev pub bytes_field : {A : Type 0} → ℕ → List ℕ → Entry (Node A)
bytes_field id bytes = record { id = pos id; kind = binary_kind; value = bytes_value bytes }

abbrev pub struct_field : {A : Type 0} → ℕ → List (Entry A) → Entry (Node A)
struct_field id es = record { id = pos id; kind = struct_kind; value = entries es }

abbrev pub list_field : {A : Type 0} → (id kind : ℕ) → List A → Entry (Node A)
list_field id kind xs = record { id = pos id; kind = list_kind; value = elements kind xs }

abbrev pub structs_field : {A : Type 0} → ℕ → List (List (Entry A)) → Entry (Node (Node A))
structs_field id xs = list_field id struct_kind (map entries xs)

-- DataPageHeader, struct 7. There are no repetition levels, and their encoding is RLE.
abbrev pub data_page_fields : {A : Type 0} → PageHead → List (Entry (Node A))
data_page_fields head =
    int32_field data_values head.values
    ∷ int32_field data_encoding head.encoding
    ∷ int32_field data_levels (or_zero head.levels)
    ∷ int32_field data_repetition_levels rle_encoding
    ∷ []

-- PageHeader, struct 6, of a data page
abbrev pub page_header_fields : {A : Type 0} → PageHead → List (Entry (Node (Node A)))
page_header_fields head =
    int32_field page_type head.kind
    ∷ int32_field page_plain_size head.plain_size
    ∷ int32_field page_stored_size head.stored_size
    ∷ struct_field page_data (data_page_fields head)
    ∷ []

-- SchemaElement, struct 2, of a leaf
abbrev pub leaf_fields : {A : Type 0} → LeafRecord → List (Entry (Node A))
leaf_fields column =
    int32_field element_type (or_zero column.kind)
    ∷ int32_field element_repetition column.repetition
    ∷ bytes_field element_name column.name
    ∷ []

-- SchemaElement, struct 2, of the root of so many leaves
abbrev pub root_fields : {A : Type 0} → ℤ → List (Entry (Node A))
root_fields count = bytes_field element_name (codes "schema") ∷ int32_field element_children count ∷ []

-- ColumnMetaData, struct 5. The values are PLAIN and the levels RLE, and the path is the leaf's name alone.
abbrev pub meta_data_fields : {A : Type 0} → LeafRecord → Chunk → List (Entry (Node (Node A)))
meta_data_fields column chunk =
    int32_field meta_type (or_zero column.kind)
    ∷ list_field meta_encodings i32_kind (number_value plain_encoding ∷ number_value rle_encoding ∷ [])
    ∷ list_field meta_path binary_kind (bytes_value column.name ∷ [])
    ∷ int32_field meta_codec (or_zero chunk.codec)
    ∷ int64_field meta_values (or_zero chunk.values)
    ∷ int64_field meta_plain_size (or_zero chunk.plain_size)
    ∷ int64_field meta_stored_size (or_zero chunk.stored_size)
    ∷ int64_field meta_data_page (or_zero chunk.data_page)
    ∷ []

-- ColumnChunk, struct 4. Its place is that of its first page.
abbrev pub chunk_fields : {A : Type 0} → LeafRecord → Chunk → List (Entry (Node (Node (Node A))))
chunk_fields column chunk = int64_field chunk_offset (or_zero chunk.data_page) ∷ struct_field chunk_meta (meta_data_fields column chunk) ∷ []

-- the chunks of leaves, in order
abbrev pub chunks_fields : {A : Type 0} → List LeafRecord → List Chunk → List (List (Entry (Node (Node (Node A)))))
chunks_fields [] chunks = []
chunks_fields (column ∷ leaves) [] = []
chunks_fields (column ∷ leaves) (chunk ∷ chunks) = chunk_fields column chunk ∷ chunks_fields leaves chunks

-- the bytes of all pages of chunks with their headers
abbrev pub total_size : List Chunk → ℕ
total_size [] = 0
total_size (chunk ∷ chunks) = natural (or_zero chunk.plain_size) + total_size chunks

-- RowGroup, struct 3
abbrev pub group_fields : {A : Type 0} → List LeafRecord → GroupRecord → List (Entry (Node (Node (Node (Node (Node A))))))
group_fields leaves group =
    structs_field group_chunks (chunks_fields leaves group.chunks)
    ∷ int64_field group_size (pos (total_size group.chunks))
    ∷ int64_field group_rows group.rows
    ∷ []

-- FileMetaData, struct 1
abbrev pub footer_fields : {A : Type 0} → FooterRecord → List (Entry (Node (Node (Node (Node (Node (Node (Node A))))))))
footer_fields footer =
    int32_field file_version (pos 1)
    ∷ structs_field file_schema (root_fields (pos (length footer.leaves)) ∷ map leaf_fields footer.leaves)
    ∷ int64_field file_rows footer.rows
    ∷ structs_field file_groups (map (group_fields footer.leaves) footer.groups)
    ∷ bytes_field file_created_by (codes "hats profile 1")
    ∷ []
