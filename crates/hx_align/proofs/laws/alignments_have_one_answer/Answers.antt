use Rattle.hx_align.proofs.Carried.{aligned_unique}
use Rattle.hx_align.proofs.laws.alignments_have_one_answer.Goals as goal

pub returns : goal.returns
returns c = aligned_unique
