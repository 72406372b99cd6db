use Rattle.hx_base.proofs.Ranges.{ascend, disjoint_where_ascending, holds_range}
use Rattle.hx_base.proofs.laws.ranges_of_pixels.Goals as goal

pub returns-clause-range : goal.returns-clause-range
returns-clause-range c = holds_range

pub returns-clause-ascending : goal.returns-clause-ascending
returns-clause-ascending c = λ pixels. (λ h. (h.each, ascend pixels h), λ h. disjoint_where_ascending pixels h.0 h.1)
