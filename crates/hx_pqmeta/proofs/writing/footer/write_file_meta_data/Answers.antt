use Rattle.std.proofs.Common.{◌≡◌, ◌+◌, ◌∙◌, suc, length, map, rules, arith}
use Rattle.std.specs.Prelude.{FitsSigned}
use Rattle.std.specs.Int.{w64, cast_signed, cast_unsigned}
use Rattle.std.proofs.lemmas.Int.{to_z-of_z}
use Rattle.hx_thrift.specs.Values.{entries, Value}
use Rattle.hx_thrift.proofs.Trails.{step}
use Rattle.hx_pqmeta.specs.WrittenFields.{leaf_fields, group_fields}
use Rattle.hx_pqmeta.proofs.WrittenCounts.{count_leaves, count_groups}
use Rattle.hx_pqmeta.proofs.writing.footer.write_file_meta_data.Goals as goal

pub returns : goal.returns
returns c =
    let footer = c.args.footer.now in
    let leaf_count : suc (length (map entries (map (leaf_fields {A = Value 28}) footer.leaves))) ≡ length footer.leaves + 1 = omega (arith, count_leaves footer.leaves) in
    let group_count : length (map entries (map (group_fields {A = Value 24} footer.leaves) footer.groups)) ≡ length footer.groups = count_groups footer.leaves footer.groups in
    let range : FitsSigned w64 c.rows-rows.result = search rules in
    let rows : cast_signed w64 (cast_unsigned w64 c.rows-rows.result) ≡ footer.rows = to_z-of_z w64 c.rows-rows.result range ∙ c.rows-rows.ensures in
    let schema = rw c.leaves.ensures at c.in_ok-write_schema.ensures in
    let list = rw c.groups.ensures at c.in_ok-list.ensures in
    let groups = rw (c.leaves-2.ensures, c.groups-2.ensures) at c.in_ok-write_groups.ensures in
    rw (leaf_count, group_count, ← rows)
    (step c.in_ok-write_int32.ensures (step schema (step c.in_ok-write_int64.ensures (step c.in_ok-field.ensures
    (step (step list groups) (step c.in_ok-write_bytes.ensures c.in_ok-stop.ensures))))))
