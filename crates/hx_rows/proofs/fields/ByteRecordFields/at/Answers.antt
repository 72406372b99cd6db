use Rattle.csv.specs.Records.{fields_of}
use Rattle.hx_rows.proofs.Indices.{field-past, field-there}
use Rattle.hx_rows.proofs.fields.ByteRecordFields.at.Goals as goal

pub returns-in-Some : goal.returns-in-Some
returns-in-Some c = field-there (fields_of c.args.self.now) c.args.index c.in-Some.bytes.now c.in-Some.ensures.value

pub returns-in-None : goal.returns-in-None
returns-in-None c = field-past (fields_of c.args.self.now) c.args.index c.in-None.ensures.value
