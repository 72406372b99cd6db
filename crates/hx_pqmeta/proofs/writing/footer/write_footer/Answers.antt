use Rattle.std.proofs.Common.{rules, ◌≡◌, ◌<◌, ◌^◌, length, ap, ◌∙◌, arith}
use Rattle.hx_thrift.proofs.Trails.{from_nothing}
use Rattle.hx_pqmeta.specs.Writing.{footer_bytes}
use Rattle.hx_pqmeta.proofs.Bounds.{footer_bound}
use Rattle.hx_pqmeta.proofs.writing.footer.write_footer.Goals as goal

pub overflow_cast-len : goal.overflow_cast-len
overflow_cast-len c =
    let bytes : length c.into_bytes-bytes.result.items ≡ length (footer_bytes c.args.footer.now) = ap length (c.into_bytes-bytes.ensures ∙ from_nothing c.in_ok-write_file_meta_data.ensures c.new-writer.ensures) in
    let few = footer_bound c.args.footer.now c.requires in
    let small : c.len-len.result < 2 ^ 32 = omega (arith, c.len-len.ensures, c.into_bytes-bytes.result.ok, bytes, few) in
    search rules
