use Rattle.hx_thrift.proofs.Trails.{step, alone}
use Rattle.hx_pqmeta.proofs.writing.chunk.write_path.Goals as goal

pub returns : goal.returns
returns c = step c.in_ok-field.ensures (step c.in_ok-list.ensures (alone c.in_ok-binary.ensures))
