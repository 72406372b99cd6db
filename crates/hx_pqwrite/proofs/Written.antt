-- The footer of the columns of rows.
use Rattle.std.proofs.Common.{◌≡◌, ℕ, ◌+◌, ◌^◌, ◌<◌, ◌≤◌, pos, List, [], ◌∷◌, length, map, sym, ap, subst, ◌∙◌, arith}
use Rattle.std.specs.List.{AllByRecursion}
use Rattle.std.proofs.lemmas.List.{length-map}
use Rattle.hx_base.specs.Columns.{name_in, value_in}
use Rattle.hx_base.specs.declared.columns.Column.{Column}
use Rattle.hx_base.specs.declared.columns.Column.TheVariants as column
use Rattle.hx_base.specs.declared.row.Row.{Row}
use Rattle.hx_pqmeta.specs.declared.chunk.Chunk.{Chunk}
use Rattle.hx_pqmeta.specs.Records.{FooterRecord}
use Rattle.hx_pqmeta.specs.Writing.{IsColumnFooter}
use Rattle.hx_pqwrite.specs.Files.{all_pages, leaf_of, chunks_of, groups_of, footer_of, columns_of}
use Rattle.hx_pqwrite.proofs.Footers.{footer_is}

short_name : (c : Column) → length (name_in c) ≤ 64
short_name column.Position = omega arith
short_name column.Id = omega arith
short_name column.X = omega arith
short_name column.Y = omega arith
short_name column.Z = omega arith

pub short_names : (columns : List Column) → AllByRecursion (λ (name : List ℕ). length name ≤ 64) (map name_in columns)
short_names [] = tt
short_names (c ∷ columns) = (short_name c, short_names columns)

pub as_many : (columns : List Column) (rows : List Row) → length (columns_of columns rows) ≡ length (map name_in columns)
as_many columns rows = length-map columns (λ c. map (value_in c) rows) ∙ sym (length-map columns name_in)

-- the footer that is made of the start of the file and the chunks
made : ℕ → List Column → ℕ → List Chunk → FooterRecord
made start columns rows chunks = record { start = start; rows = pos rows; leaves = map leaf_of (map name_in columns); groups = groups_of rows chunks }

pub footer_made : (columns : List Column) (rows : List Row) (start : ℕ) (chunks : List Chunk) (footer : FooterRecord)
    → footer ≡ record { start = start; rows = pos (length rows); leaves = map leaf_of (map name_in columns); groups = groups_of (length rows) chunks }
    → start ≡ 4 + length (all_pages (columns_of columns rows)) → chunks ≡ chunks_of 4 (length rows) (columns_of columns rows)
    → footer ≡ footer_of (map name_in columns) (length rows) (columns_of columns rows)
unfolding made
footer_made columns rows start chunks footer is start_is chunks_are =
    is ∙ (ap (λ (n : ℕ). made n columns (length rows) chunks) start_is ∙ ap (made (4 + length (all_pages (columns_of columns rows))) columns (length rows)) chunks_are)

pub footer_fit : (columns : List Column) (rows : List Row) (footer : FooterRecord) → footer ≡ footer_of (map name_in columns) (length rows) (columns_of columns rows)
    → 1 ≤ length columns → length columns ≤ 64 → length (all_pages (columns_of columns rows)) < 2 ^ 63 → IsColumnFooter footer
footer_fit columns rows footer is some few long =
    let count : length (map name_in columns) ≡ length columns = length-map columns name_in in
    subst IsColumnFooter (sym is) (footer_is (map name_in columns) (length rows) (columns_of columns rows) (omega (arith, count, some)) (omega (arith, count, few)) (short_names columns) (as_many columns rows) long)
