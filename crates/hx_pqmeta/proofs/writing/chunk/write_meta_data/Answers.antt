use Rattle.hx_thrift.proofs.Trails.{step}
use Rattle.hx_pqmeta.proofs.writing.chunk.write_meta_data.Goals as goal

pub returns : goal.returns
returns c = rw (← c.kind-kind.ensures, ← c.name.ensures) (step c.in_ok-write_int32_or_zero.ensures (step c.in_ok-write_encodings.ensures (step c.in_ok-write_path.ensures (step c.in_ok-write_int32_or_zero-2.ensures (step c.in_ok-write_int64_or_zero.ensures (step c.in_ok-write_int64_or_zero-2.ensures (step c.in_ok-write_int64_or_zero-3.ensures (step c.in_ok-write_int64_or_zero-4.ensures c.in_ok-stop.ensures))))))))
