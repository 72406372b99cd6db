use Rattle.hx_thrift.proofs.Trails.{step}
use Rattle.std.proofs.Common.{rules}
use Rattle.std.specs.Prelude.{FitsSigned}
use Rattle.std.specs.Int.{w32}
use Rattle.std.proofs.lemmas.Int.{to_z-of_z}
use Rattle.hx_pqmeta.proofs.writing.schema.write_leaf.Goals as goal

pub returns : goal.returns
returns c =
    let range : FitsSigned w32 c.repetition-repetition.result = search rules in
    rw (← c.kind-kind.ensures, ← c.repetition-repetition.ensures, ← c.name.ensures, ← to_z-of_z w32 c.repetition-repetition.result range)
    (step c.in_ok-write_int32_or_zero.ensures (step c.in_ok-write_int32.ensures (step c.in_ok-write_bytes.ensures c.in_ok-stop.ensures)))
