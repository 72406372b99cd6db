use Rattle.std.proofs.Common.{rules, ◌≡◌, ◌<◌, ◌^◌, List, length, map, vec_len, ap, ◌∙◌, arith}
use Rattle.hx_base.specs.Columns.{name_in}
use Rattle.hx_base.specs.declared.columns.Column.{Column}
use Rattle.hx_rows.specs.Parquet.{parquet_rows}
use Rattle.hx_pqwrite.specs.Files.{columns_of, file_of, written_file}
use Rattle.hx_pqwrite.proofs.Rows.{has_columns}
use Rattle.hx_pqwrite.proofs.writing.write.Goals as goal

pub returns-clause-columns : goal.returns-clause-columns
returns-clause-columns c =
    let rows = c.args.rows.now in
    let bytes : c.in_ok-bytes.bytes.items ≡ written_file rows = c.in_ok-bytes.ensures ∙ ap (λ (cs : List Column). file_of (map name_in cs) (length rows) (columns_of cs rows)) c.all.ensures in
    let few : length rows < 2 ^ 63 = search rules in
    let len : vec_len c.in_ok-bytes.bytes ≡ length c.in_ok-bytes.bytes.items = search rules in
    let long : vec_len c.in_ok-bytes.bytes < 2 ^ 63 = search rules in
    has_columns c.written_tables_read_back.ensures rows c.in_ok-bytes.bytes.items bytes c.rows_fit.ensures few (omega (arith, len, long))

pub returns-clause-rows : goal.returns-clause-rows
returns-clause-rows c good few =
    let rows = c.args.rows.now in
    let bytes : c.in_ok-bytes.bytes.items ≡ written_file rows = c.in_ok-bytes.ensures ∙ ap (λ (cs : List Column). file_of (map name_in cs) (length rows) (columns_of cs rows)) c.all.ensures in
    ap parquet_rows bytes ∙ c.written_rows_read_back.ensures rows good (λ k d within. (c.rows_fit.ensures k d within).id) few
