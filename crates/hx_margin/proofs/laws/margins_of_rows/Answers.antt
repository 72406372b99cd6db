use Rattle.hx_margin.proofs.Margins.{margin_decided, margin_tells, margin_test, one_margin, some_margin}
use Rattle.hx_margin.proofs.laws.margins_of_rows.Goals as goal

pub returns-clause-decided : goal.returns-clause-decided
returns-clause-decided c = margin_decided

pub returns-clause-test : goal.returns-clause-test
returns-clause-test c = λ part m. (margin_test part m, margin_tells part m)

pub returns-clause-some : goal.returns-clause-some
returns-clause-some c = some_margin

pub returns-clause-one : goal.returns-clause-one
returns-clause-one c = one_margin
