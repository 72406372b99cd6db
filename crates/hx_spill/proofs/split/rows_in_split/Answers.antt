use Rattle.std.proofs.Common.{◌∙◌}
use Rattle.hx_spill.proofs.HeadRows.{split_rows_told}
use Rattle.hx_spill.proofs.split.rows_in_split.Goals as goal

pub returns-clause-whole : goal.returns-clause-whole
returns-clause-whole c = λ placed is. c.rows_told.ensures ∙ split_rows_told c.args.bytes.now placed is
