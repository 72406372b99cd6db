use Rattle.std.proofs.Common.{arith}
use Rattle.hx_cover.proofs.Gaps.{gap_fits, gap_le_chord}
use Rattle.hx_cover.proofs.Unions.{gap_of_round}
use Rattle.hx_cover.proofs.laws.gaps_of_boxes.Goals as goal

pub returns-clause-chord : goal.returns-clause-chord
returns-clause-chord c = gap_le_chord

pub returns-clause-round : goal.returns-clause-round
returns-clause-round c = gap_of_round

pub returns-clause-fits : goal.returns-clause-fits
returns-clause-fits c = λ a b ax ay az bx by bz. let h = gap_fits a b ax ay az bx by bz in omega (arith, h)
