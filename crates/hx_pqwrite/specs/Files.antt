-- The file that is written of a table of numbers, and of rows (Parquet format).
use Rattle.std.specs.Prelude.{ℕ, zero, suc, ◌+◌, ◌*◌, ◌/◌, ℤ, pos, List, [], ◌∷◌, ◌++◌, length, map, take, drop, true, false, ◌==◌, if◌then◌else◌, Some, None}
use Rattle.std.specs.Int.{w64, to_le_bytes, cast_unsigned}
use Rattle.hx_base.specs.Columns.{column_names, columns_of_rows, value_in}
use Rattle.hx_base.specs.declared.columns.Column.{Column}
use Rattle.hx_base.specs.declared.row.Row.{Row}
use Rattle.hx_pqmeta.specs.declared.chunk.Chunk.{Chunk}
use Rattle.hx_pqmeta.specs.declared.page.PageHead.{PageHead}
use Rattle.hx_pqmeta.specs.Enumerations.{int64_type, required, plain_encoding, rle_encoding, uncompressed, data_page}
use Rattle.hx_pqmeta.specs.Footers.{magic}
use Rattle.hx_pqmeta.specs.Records.{LeafRecord, GroupRecord, FooterRecord}
use Rattle.hx_pqmeta.specs.Writing.{page_header_bytes, footer_tail}

-- ---- pages

-- how many rows a page has; the last one may have fewer
abbrev pub page_rows : ℕ
page_rows = 65536

-- an INT64: eight bytes, little-endian, in two's complement
abbrev pub number_bytes : ℤ → List ℕ
number_bytes n = to_le_bytes w64 (cast_unsigned w64 n)

abbrev pub body : List ℤ → List ℕ
body [] = []
body (n ∷ numbers) = number_bytes n ++ body numbers

-- the head of a page of so many numbers, which are plain ones; levels would be runs, and there are none
abbrev pub head_of : ℕ → PageHead
head_of count = record {
  kind = data_page;
  plain_size = pos (count * 8);
  stored_size = pos (count * 8);
  values = pos count;
  encoding = plain_encoding;
  levels = Some rle_encoding;
  next = 0;
}

abbrev pub page : List ℤ → List ℕ
page numbers = page_header_bytes (head_of (length numbers)) ++ body numbers

-- so many pages of numbers, one after another
unfoldable pub pages : (count : ℕ) → List ℤ → List ℕ
pages zero numbers = []
pages (suc count) numbers = page (take page_rows numbers) ++ pages count (drop page_rows numbers)

-- all pages of a column
abbrev pub page_count : (rows : ℕ) → ℕ
page_count rows = (rows + 65535) / 65536

abbrev pub column_pages : List ℤ → List ℕ
column_pages numbers = pages (page_count (length numbers)) numbers

-- the pages of columns, one after another
abbrev pub all_pages : List (List ℤ) → List ℕ
all_pages [] = []
all_pages (numbers ∷ columns) = column_pages numbers ++ all_pages columns

-- ---- the footer

-- a REQUIRED column of INT64
abbrev pub leaf_of : (name : List ℕ) → LeafRecord
leaf_of name = record { kind = Some int64_type; repetition = required; name = name; children = None }

-- the chunk of so many rows whose pages stand at a place and take so many bytes
abbrev pub chunk_of : (place rows size : ℕ) → Chunk
chunk_of place rows size = record {
  has_path = false;
  has_meta = true;
  codec = Some uncompressed;
  values = Some (pos rows);
  plain_size = Some (pos size);
  stored_size = Some (pos size);
  data_page = Some (pos place);
  dictionary_page = None;
}

-- the chunks of columns, of which the first one's pages stand at a place
abbrev pub chunks_of : (place rows : ℕ) → List (List ℤ) → List Chunk
chunks_of place rows [] = []
chunks_of place rows (numbers ∷ columns) = chunk_of place rows (length (column_pages numbers)) ∷ chunks_of (place + length (column_pages numbers)) rows columns

-- one row group, and none where there are no rows
abbrev pub groups_of : (rows : ℕ) → List Chunk → List GroupRecord
groups_of rows chunks = if rows == 0 then [] else record { rows = pos rows; chunks = chunks } ∷ []

abbrev pub footer_of : (names : List (List ℕ)) → (rows : ℕ) → (columns : List (List ℤ)) → FooterRecord
footer_of names rows columns = record {
  start = 4 + length (all_pages columns);
  rows = pos rows;
  leaves = map leaf_of names;
  groups = groups_of rows (chunks_of 4 rows columns);
}

-- ---- the file

-- the mark, the columns' pages, the footer, its length, the mark
abbrev pub file_of : (names : List (List ℕ)) → (rows : ℕ) → (columns : List (List ℤ)) → List ℕ
file_of names rows columns = magic ++ all_pages columns ++ footer_tail (footer_of names rows columns)

-- the values of rows in columns
abbrev pub columns_of : List Column → List Row → List (List ℤ)
columns_of columns rows = map (λ column. map (value_in column) rows) columns

-- the file of the five columns of rows
abbrev pub written_file : List Row → List ℕ
written_file rows = file_of column_names (length rows) (columns_of_rows rows)
