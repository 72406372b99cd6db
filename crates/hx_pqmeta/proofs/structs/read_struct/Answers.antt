use Rattle.hx_pqmeta.proofs.Entries.{struct_given}
use Rattle.hx_pqmeta.proofs.structs.read_struct.Goals as goal

pub returns : goal.returns
returns g c = struct_given g.T.Struct.levels g.T.Struct.wants g.T.Struct.said c.read_entries.result c.args.reader.now c.read_entries.new.reader c.read_entries.ensures
