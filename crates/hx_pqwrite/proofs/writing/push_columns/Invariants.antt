use Rattle.std.proofs.Common.{◌≡◌, ◌++◌, length, drop}
use Rattle.hx_pqwrite.specs.Files.{all_pages, chunks_of, columns_of}
use Rattle.hx_pqwrite.proofs.writing.push_columns.Given as goal

abbrev pub invariant-loop-column : goal.invariant-loop-column
invariant-loop-column l = record {
  pages : l.bytes.items ++ all_pages (columns_of (drop l.column-index l.columns) l.rows) ≡ l.fn.bytes.items ++ all_pages (columns_of l.columns l.rows);
  chunks : l.chunks.items ++ chunks_of (length l.bytes.items) (length l.rows) (columns_of (drop l.column-index l.columns) l.rows) ≡ l.fn.chunks.items ++ chunks_of (length l.fn.bytes.items) (length l.rows) (columns_of l.columns l.rows);
}
