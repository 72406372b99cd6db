-- A Parquet file by its parts, and where its footer is found.
use Rattle.std.specs.Prelude.{◌≡◌, ℕ, ◌+◌, ◌<◌, ◌^◌, List, ◌++◌, length, get_or, ◌↔◌, Ok}
use Rattle.std.specs.Int.{w32, to_le_bytes}
use Rattle.hx_thrift.specs.Texts.{Text}
use Rattle.hx_pqmeta.specs.Footers.{magic, footer_text}

-- the mark, pages, a footer, the footer's length in four bytes, the least first, and the mark
abbrev pub framed : (pages footer : List ℕ) → List ℕ
framed pages footer = magic ++ pages ++ footer ++ to_le_bytes w32 (length footer) ++ magic

-- A footer is found exactly in the files that are made so, and there behind the pages.
abbrev pub FindsTheFooter : Type 0
FindsTheFooter = (file : List ℕ) (text : Text) → ((i : ℕ) → get_or file i 0 < 256)
    → (footer_text file ≡ Ok text)
    ↔ ((pages : List ℕ) × (text.at ≡ 4 + length pages) × (length text.bytes < 2 ^ 32) × (file ≡ framed pages text.bytes))
