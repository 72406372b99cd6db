use Rattle.std.proofs.Common.{◌∙◌}
use Rattle.hx_spill.proofs.HeadRows.{map_rows_told}
use Rattle.hx_spill.proofs.map.rows_in_map.Goals as goal

pub returns-clause-whole : goal.returns-clause-whole
returns-clause-whole c = λ hist is. c.rows_told.ensures ∙ map_rows_told c.args.bytes.now hist is
