-- The ids of the fields that are read or written, by struct (Parquet format, parquet.thrift).
use Rattle.std.specs.Prelude.{ℕ}

-- FileMetaData
abbrev pub file_version : ℕ
file_version = 1

abbrev pub file_schema : ℕ
file_schema = 2

abbrev pub file_rows : ℕ
file_rows = 3

abbrev pub file_groups : ℕ
file_groups = 4

abbrev pub file_created_by : ℕ
file_created_by = 6

-- SchemaElement
abbrev pub element_type : ℕ
element_type = 1

abbrev pub element_repetition : ℕ
element_repetition = 3

abbrev pub element_name : ℕ
element_name = 4

abbrev pub element_children : ℕ
element_children = 5

-- RowGroup
abbrev pub group_chunks : ℕ
group_chunks = 1

abbrev pub group_size : ℕ
group_size = 2

abbrev pub group_rows : ℕ
group_rows = 3

-- ColumnChunk
abbrev pub chunk_path : ℕ
chunk_path = 1

abbrev pub chunk_offset : ℕ
chunk_offset = 2

abbrev pub chunk_meta : ℕ
chunk_meta = 3

-- ColumnMetaData
abbrev pub meta_type : ℕ
meta_type = 1

abbrev pub meta_encodings : ℕ
meta_encodings = 2

abbrev pub meta_path : ℕ
meta_path = 3

abbrev pub meta_codec : ℕ
meta_codec = 4

abbrev pub meta_values : ℕ
meta_values = 5

abbrev pub meta_plain_size : ℕ
meta_plain_size = 6

abbrev pub meta_stored_size : ℕ
meta_stored_size = 7

abbrev pub meta_data_page : ℕ
meta_data_page = 9

abbrev pub meta_dictionary_page : ℕ
meta_dictionary_page = 11

-- PageHeader
abbrev pub page_type : ℕ
page_type = 1

abbrev pub page_plain_size : ℕ
page_plain_size = 2

abbrev pub page_stored_size : ℕ
page_stored_size = 3

abbrev pub page_data : ℕ
page_data = 5

-- DataPageHeader
abbrev pub data_values : ℕ
data_values = 1

abbrev pub data_encoding : ℕ
data_encoding = 2

abbrev pub data_levels : ℕ
data_levels = 3

abbrev pub data_repetition_levels : ℕ
data_repetition_levels = 4
