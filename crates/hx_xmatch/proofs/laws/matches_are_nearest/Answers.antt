use Rattle.hx_xmatch.proofs.Matches.{only_nearest}
use Rattle.hx_xmatch.proofs.laws.matches_are_nearest.Goals as goal

pub returns : goal.returns
returns c = λ from r2 rows found. only_nearest from r2 rows found
