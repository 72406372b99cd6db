use Rattle.std.proofs.Common.{◌∙◌}
use Rattle.hx_thrift.proofs.Trails.{step, from_nothing}
use Rattle.hx_pqmeta.proofs.writing.page.write_page_header.Goals as goal

pub returns : goal.returns
returns c =
    let parts = step c.in_ok-write_int32.ensures (step c.in_ok-write_int32-2.ensures (step c.in_ok-write_int32-3.ensures (step c.in_ok-field.ensures (step c.in_ok-write_data_page.ensures c.in_ok-stop.ensures)))) in
    c.into_bytes.ensures ∙ from_nothing parts c.new-writer.ensures
