use Rattle.std.proofs.Common.{◌<◌, ◌^◌, length, arith}
use Rattle.std.specs.Int.{w32}
use Rattle.std.proofs.lemmas.Int.{to_z_pos}
use Rattle.hx_thrift.proofs.Trails.{step}
use Rattle.hx_pqmeta.proofs.writing.schema.write_schema.Goals as goal

pub returns : goal.returns
returns c =
    let few : length c.args.leaves.now < 2 ^ 31 = omega (arith, c.requires.few) in
    let root = rw (to_z_pos w32 (length c.args.leaves.now) few) at c.in_ok-write_root.ensures in
    step c.in_ok-field.ensures (step c.in_ok-list.ensures (step root c.in_ok-write_leaves.ensures))
