use Rattle.hx_catalog.proofs.Loaded.{one-file, one-loading}
use Rattle.hx_catalog.proofs.Opened.{one-opening}
use Rattle.hx_catalog.proofs.finished.answers_are_one.Goals as goal

pub returns-clause-opening : goal.returns-clause-opening
returns-clause-opening c = one-opening

pub returns-clause-loading : goal.returns-clause-loading
returns-clause-loading c = one-loading c.reading_is_standing.ensures.read

pub returns-clause-file : goal.returns-clause-file
returns-clause-file c = one-file c.reading_is_standing.ensures.read
