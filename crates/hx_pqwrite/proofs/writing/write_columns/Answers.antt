use Rattle.std.proofs.Common.{rules, ◌≡◌, ℕ, ◌+◌, ◌++◌, ◌<◌, ◌^◌, List, length, ap, ◌∙◌, arith, length-append}
use Rattle.hx_pqmeta.specs.declared.chunk.Chunk.{Chunk}
use Rattle.hx_pqmeta.specs.Footers.{magic}
use Rattle.hx_pqwrite.specs.Files.{all_pages, chunks_of, columns_of}
use Rattle.hx_pqwrite.proofs.Written.{footer_made, footer_fit}
use Rattle.hx_pqwrite.proofs.writing.write_columns.Goals as goal

pub write_footer-requires : goal.write_footer-requires
write_footer-requires c =
    let rows = c.args.rows.now in
    let table = columns_of c.args.columns.now rows in
    let begun : c.extend_from_slice.new.self.items ≡ magic = c.in_ok-extend_from_slice.ensures.items ∙ ap (λ (xs : List ℕ). xs ++ magic) c.in_ok-bytes.ensures.items in
    let pages : c.push_columns.new.bytes.items ≡ magic ++ all_pages table = c.in_ok-push_columns.ensures.bytes ∙ ap (λ (xs : List ℕ). xs ++ all_pages table) begun in
    let chunks : c.push_columns.new.chunks.items ≡ chunks_of 4 (length rows) table =
    c.in_ok-push_columns.ensures.chunks
    ∙ (ap (λ (xs : List Chunk). xs ++ chunks_of (length c.extend_from_slice.new.self.items) (length rows) table) c.in_ok-chunks.ensures.items ∙ ap (λ (xs : List ℕ). chunks_of (length xs) (length rows) table) begun) in
    let count : length c.push_columns.new.bytes.items ≡ 4 + length (all_pages table) = ap length pages ∙ length-append magic (all_pages table) in
    let start : c.len.result ≡ 4 + length (all_pages table) = omega (arith, count, c.len.ensures) in
    let long : c.len.result < 2 ^ 63 = search rules in
    footer_fit c.args.columns.now rows c.in_ok-footer.footer (footer_made c.args.columns.now rows c.len.result c.push_columns.new.chunks.items c.in_ok-footer.footer c.in_ok-footer.ensures start chunks)
    c.requires.some c.requires.few (omega (arith, start, long))
