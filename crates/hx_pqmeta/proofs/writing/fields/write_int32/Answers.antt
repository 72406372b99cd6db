use Rattle.std.proofs.Common.{arith}
use Rattle.std.proofs.lemmas.Grind.{common_steps}
use Rattle.hx_pqmeta.proofs.writing.fields.write_int32.Goals as goal

pub returns : goal.returns
returns c =
    let header = c.in_ok-field.ensures.is in
    let number = c.in_ok-int.ensures.is in
    record { is = grind (arith, common_steps, header, number) }
