use Rattle.hx_thrift.proofs.Trails.{step}
use Rattle.hx_pqmeta.proofs.writing.schema.write_root.Goals as goal

pub returns : goal.returns
returns c = step c.in_ok-write_bytes.ensures (step c.in_ok-write_int32.ensures c.in_ok-stop.ensures)
