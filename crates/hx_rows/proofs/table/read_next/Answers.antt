use Rattle.std.proofs.Common.{inl}
use Rattle.csv.specs.Records.{fields_of}
use Rattle.hx_rows.proofs.Whole.{takes-next}
use Rattle.hx_rows.proofs.table.read_next.Goals as goal

pub returns-clause-next : goal.returns-clause-next
returns-clause-next c =
    let stands = c.requires in
    let told = c.in-Ok.ensures in
    takes-next c.args.reader.now c.read_byte_record.new.self (fields_of c.read_byte_record.new.row) c.in-Ok.found stands
    (λ _. inl (told.ready stands.trim)) told.flexible (told.reads stands.trim stands.ready)
