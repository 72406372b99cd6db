use Rattle.hx_spill.proofs.Aligned.{aligned_rows}
use Rattle.hx_spill.proofs.laws.alignments_are_of_rows.Goals as goal

pub returns : goal.returns
returns c = aligned_rows
