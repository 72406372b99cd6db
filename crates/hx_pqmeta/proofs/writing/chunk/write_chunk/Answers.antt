use Rattle.hx_thrift.proofs.Trails.{step}
use Rattle.hx_pqmeta.proofs.writing.chunk.write_chunk.Goals as goal

pub returns : goal.returns
returns c = step c.in_ok-write_int64_or_zero.ensures (step c.in_ok-field.ensures (step c.in_ok-write_meta_data.ensures c.in_ok-stop.ensures))
