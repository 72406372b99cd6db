-- The bytes that are written for the header of a page and for a footer, and that they are read back.
use Rattle.std.specs.Prelude.{◌≡◌, ◌⊎◌, ℕ, ◌+◌, ◌<◌, ◌≤◌, ◌^◌, ℤ, pos, ◌≤ℤ◌, List, ◌++◌, length, map, false, true, Some, None, Ok, IsSome, FitsSigned}
use Rattle.std.specs.List.{AllByRecursion}
use Rattle.std.specs.Int.{w32, w64, to_le_bytes}
use Rattle.hx_thrift.specs.Kinds.{struct_kind}
use Rattle.hx_thrift.specs.Values.{entries, Value}
use Rattle.hx_thrift.specs.Spelling.{Spells}
use Rattle.hx_thrift.specs.Writing.{written_all, written}
use Rattle.hx_pqmeta.specs.declared.chunk.Chunk.{Chunk}
use Rattle.hx_pqmeta.specs.declared.page.PageHead.{PageHead}
use Rattle.hx_pqmeta.specs.Enumerations.{int32_type, int64_type, required, data_page}
use Rattle.hx_pqmeta.specs.Fields.{page_header_of}
use Rattle.hx_pqmeta.specs.Footers.{magic, footer_in}
use Rattle.hx_pqmeta.specs.PageHeaders.{page_head_of, page_head_at}
use Rattle.hx_pqmeta.specs.Records.{LeafRecord, GroupRecord, FooterRecord}
use Rattle.hx_pqmeta.specs.WrittenFields.{or_zero, data_page_fields, page_header_fields, leaf_fields, root_fields, meta_data_fields, chunk_fields, chunks_fields, total_size, group_fields, footer_fields}

-- ---- the header of a page

abbrev pub data_page_bytes : PageHead → List ℕ
data_page_bytes head = written 31 (entries (data_page_fields head))

abbrev pub page_header_bytes : PageHead → List ℕ
page_header_bytes head = written 32 (entries (page_header_fields head))

-- the header of a data page with levels, whose numbers are i32
pub record IsDataPage (head : PageHead) : Type 0 where
  pub kind : head.kind ≡ data_page
  pub levels : IsSome head.levels
  pub level_fits : FitsSigned w32 (or_zero head.levels)
  pub plain_size : FitsSigned w32 head.plain_size
  pub stored_size : FitsSigned w32 head.stored_size
  pub values : FitsSigned w32 head.values
  pub encoding : FitsSigned w32 head.encoding

-- The bytes of a header spell its fields.
abbrev pub SpellsPageHeaders : Type 0
SpellsPageHeaders = (head : PageHead) → IsDataPage head → Spells 32 struct_kind (page_header_bytes head) (entries (page_header_fields head))

-- These fields are the header's.
abbrev pub KeepsPageHeaders : Type 0
KeepsPageHeaders = (head : PageHead) (next : ℕ) → IsDataPage head → page_head_of (page_header_of (page_header_fields {A = Value 29} head)) next ≡ Ok (record head { next = next })

-- At every place, and whatever follows, the header is read, with the place behind it.
abbrev pub ReadsPageHeaders : Type 0
ReadsPageHeaders = (head : PageHead) (at : ℕ) (more : List ℕ) → IsDataPage head
    → page_head_at (record { at = at; bytes = page_header_bytes head ++ more }) ≡ Ok (record head { next = at + length (page_header_bytes head) })

-- A header has at most 385 bytes.
abbrev pub BoundsPageHeaders : Type 0
BoundsPageHeaders = (head : PageHead) → length (page_header_bytes head) ≤ 385

-- ---- a footer

abbrev pub root_bytes : (count : ℤ) → List ℕ
root_bytes count = written 30 (entries (root_fields count))

abbrev pub leaf_bytes : LeafRecord → List ℕ
leaf_bytes column = written 30 (entries (leaf_fields column))

abbrev pub leaves_bytes : List LeafRecord → List ℕ
leaves_bytes leaves = written_all (written 30) (map entries (map leaf_fields leaves))

abbrev pub meta_data_bytes : LeafRecord → Chunk → List ℕ
meta_data_bytes column chunk = written 27 (entries (meta_data_fields column chunk))

abbrev pub chunk_bytes : LeafRecord → Chunk → List ℕ
chunk_bytes column chunk = written 28 (entries (chunk_fields column chunk))

abbrev pub chunks_bytes : List LeafRecord → List Chunk → List ℕ
chunks_bytes leaves chunks = written_all (written 28) (map entries (chunks_fields leaves chunks))

abbrev pub group_bytes : List LeafRecord → GroupRecord → List ℕ
group_bytes leaves group = written 30 (entries (group_fields leaves group))

abbrev pub groups_bytes : List LeafRecord → List GroupRecord → List ℕ
groups_bytes leaves groups = written_all (written 30) (map entries (map (group_fields leaves) groups))

abbrev pub footer_bytes : FooterRecord → List ℕ
footer_bytes footer = written 32 (entries (footer_fields footer))

-- the footer, its length, and the mark
abbrev pub footer_tail : FooterRecord → List ℕ
footer_tail footer = footer_bytes footer ++ to_le_bytes w32 (length (footer_bytes footer)) ++ magic

-- ---- footers that are written

-- a REQUIRED column of numbers
pub record IsColumnLeaf (column : LeafRecord) : Type 0 where
  pub kind : (column.kind ≡ Some int32_type) ⊎ (column.kind ≡ Some int64_type)
  pub repetition : column.repetition ≡ required
  pub name : length column.name ≤ 64
  pub children : column.children ≡ None

-- a chunk of so many values in the same file, without a dictionary, with all its other numbers
pub record IsColumnChunk (rows : ℤ) (chunk : Chunk) : Type 0 where
  pub has_path : chunk.has_path ≡ false
  pub has_meta : chunk.has_meta ≡ true
  pub codec : IsSome chunk.codec
  pub values : chunk.values ≡ Some rows
  pub plain_size : IsSome chunk.plain_size
  pub least_size : pos 0 ≤ℤ or_zero chunk.plain_size
  pub stored_size : IsSome chunk.stored_size
  pub data_page : IsSome chunk.data_page
  pub dictionary_page : chunk.dictionary_page ≡ None

-- a row group of a chunk for each leaf, whose sizes' sum has room in an i64
pub record IsColumnGroup (leaves : List LeafRecord) (group : GroupRecord) : Type 0 where
  pub count : length group.chunks ≡ length leaves
  pub chunks : AllByRecursion (IsColumnChunk group.rows) group.chunks
  pub size : total_size group.chunks < 2 ^ 63

-- a footer of 1 to 64 columns with at most one row group, which has all rows
pub record IsColumnFooter (footer : FooterRecord) : Type 0 where
  pub least : 1 ≤ length footer.leaves
  pub most : length footer.leaves ≤ 64
  pub leaves : AllByRecursion IsColumnLeaf footer.leaves
  pub rows : pos 0 ≤ℤ footer.rows
  pub one : length footer.groups ≤ 1
  pub none : length footer.groups ≡ 0 → footer.rows ≡ pos 0
  pub all : AllByRecursion (λ (group : GroupRecord). group.rows ≡ footer.rows) footer.groups
  pub groups : AllByRecursion (IsColumnGroup footer.leaves) footer.groups

-- the numbers of a chunk are within the ranges of their fields
pub record ChunkFits (chunk : Chunk) : Type 0 where
  pub codec : FitsSigned w32 (or_zero chunk.codec)
  pub values : FitsSigned w64 (or_zero chunk.values)
  pub plain_size : FitsSigned w64 (or_zero chunk.plain_size)
  pub stored_size : FitsSigned w64 (or_zero chunk.stored_size)
  pub data_page : FitsSigned w64 (or_zero chunk.data_page)

pub record FooterFits (footer : FooterRecord) : Type 0 where
  pub rows : FitsSigned w64 footer.rows
  pub chunks : AllByRecursion (λ (group : GroupRecord). AllByRecursion ChunkFits group.chunks) footer.groups

-- Behind a mark and pages the bytes of a footer make a file with that footer.
abbrev pub ReadsFooters : Type 0
ReadsFooters = (footer : FooterRecord) (pages : List ℕ) → IsColumnFooter footer → FooterFits footer → footer.start ≡ 4 + length pages
    → footer_in (magic ++ pages ++ footer_tail footer) ≡ Ok footer

-- The length of a footer has room in four bytes.
abbrev pub BoundsFooters : Type 0
BoundsFooters = (footer : FooterRecord) → IsColumnFooter footer → length (footer_bytes footer) < 2 ^ 32
