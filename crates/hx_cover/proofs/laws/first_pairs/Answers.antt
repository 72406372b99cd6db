use Rattle.hx_cover.proofs.Firsts.{found_first, least_of_rows, none_first, none_of_rows, one_least}
use Rattle.hx_cover.proofs.laws.first_pairs.Goals as goal

pub returns-clause-none : goal.returns-clause-none
returns-clause-none c = none_of_rows

pub returns-clause-least : goal.returns-clause-least
returns-clause-least c = least_of_rows

pub returns-clause-later : goal.returns-clause-later
returns-clause-later c = none_first

pub returns-clause-earlier : goal.returns-clause-earlier
returns-clause-earlier c = found_first

pub returns-clause-one : goal.returns-clause-one
returns-clause-one c = one_least
