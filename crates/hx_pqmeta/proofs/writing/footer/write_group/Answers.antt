use Rattle.std.proofs.Common.{◌≡◌, ◌<◌, ◌^◌, ◌∙◌, length, map, rules}
use Rattle.std.specs.Prelude.{FitsSigned}
use Rattle.std.specs.Int.{w64, cast_signed, cast_unsigned}
use Rattle.std.proofs.lemmas.Int.{to_z-of_z, to_z_pos}
use Rattle.hx_thrift.specs.Values.{entries, Value}
use Rattle.hx_thrift.proofs.Trails.{step}
use Rattle.hx_pqmeta.specs.WrittenFields.{chunks_fields, total_size}
use Rattle.hx_pqmeta.proofs.WrittenCounts.{count_all_chunks}
use Rattle.hx_pqmeta.proofs.writing.footer.write_group.Goals as goal

pub returns : goal.returns
returns c =
    let group = c.args.group.now in
    let count : length (map entries (chunks_fields {A = Value 24} c.args.leaves.now group.chunks)) ≡ length c.args.leaves.now = count_all_chunks c.args.leaves.now group.chunks c.requires.group.count in
    let range : FitsSigned w64 c.rows-rows.result = search rules in
    let rows : cast_signed w64 (cast_unsigned w64 c.rows-rows.result) ≡ group.rows = to_z-of_z w64 c.rows-rows.result range ∙ c.rows-rows.ensures in
    let small : total_size group.chunks < 2 ^ 63 = c.requires.group.size in
    let size = rw (c.total_size.ensures, c.chunks.ensures, to_z_pos w64 (total_size group.chunks) small) at c.in_ok-write_int64.ensures in
    let chunks = rw c.chunks-2.ensures at c.in_ok-write_chunks.ensures in
    rw (count, ← rows)
    (step c.in_ok-field.ensures (step (step c.in_ok-list.ensures chunks) (step size (step c.in_ok-write_int64-2.ensures c.in_ok-stop.ensures))))
