-- The numbers of the enumerations that are read or written (Parquet format, parquet.thrift).
use Rattle.std.specs.Prelude.{ℤ, pos}

-- Type
abbrev pub int32_type : ℤ
int32_type = pos 1

abbrev pub int64_type : ℤ
int64_type = pos 2

-- FieldRepetitionType
abbrev pub required : ℤ
required = pos 0

abbrev pub optional : ℤ
optional = pos 1

-- Encoding
abbrev pub plain_encoding : ℤ
plain_encoding = pos 0

abbrev pub rle_encoding : ℤ
rle_encoding = pos 3

-- CompressionCodec
abbrev pub uncompressed : ℤ
uncompressed = pos 0

-- PageType
abbrev pub data_page : ℤ
data_page = pos 0
