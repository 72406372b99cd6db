use Rattle.hx_thrift.proofs.Trails.{step}
use Rattle.hx_pqmeta.proofs.writing.page.write_data_page.Goals as goal

pub returns : goal.returns
returns c = step c.in_ok-write_int32.ensures (step c.in_ok-write_int32-2.ensures (step c.in_ok-write_int32_or_zero.ensures (step c.in_ok-write_int32-3.ensures c.in_ok-stop.ensures)))
