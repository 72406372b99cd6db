-- The footer of a Parquet file, and the structs that it is read from, as records with lists.
use Rattle.std.specs.Prelude.{ℕ, ℤ, List, Option}
use Rattle.hx_pqmeta.specs.declared.chunk.Chunk.{Chunk}

-- SchemaElement, struct 2
pub record ElementFields : Type 0 where
  pub kind : Option ℤ
  pub repetition : Option ℤ
  pub name : Option (List ℕ)
  pub children : Option ℤ

-- RowGroup, struct 3
pub record RowGroupFields : Type 0 where
  pub chunks : Option (List Chunk)
  pub rows : Option ℤ

-- FileMetaData, struct 1
pub record FileFields : Type 0 where
  pub schema : Option (List ElementFields)
  pub rows : Option ℤ
  pub groups : Option (List RowGroupFields)

-- an element of the schema behind the first one, which is the root
pub record LeafRecord : Type 0 where
  pub kind : Option ℤ
  pub repetition : ℤ
  pub name : List ℕ
  pub children : Option ℤ

-- a row group, with a chunk for each column
pub record GroupRecord : Type 0 where
  pub rows : ℤ
  pub chunks : List Chunk

-- a footer, whose first byte stands at start
pub record FooterRecord : Type 0 where
  pub start : ℕ
  pub rows : ℤ
  pub leaves : List LeafRecord
  pub groups : List GroupRecord
