use Rattle.hx_thrift.proofs.Trails.{step, alone}
use Rattle.hx_pqmeta.proofs.writing.chunk.write_encodings.Goals as goal

pub returns : goal.returns
returns c = step c.in_ok-field.ensures (step c.in_ok-list.ensures (step c.in_ok-write_encoding.ensures (alone c.in_ok-write_encoding-2.ensures)))
