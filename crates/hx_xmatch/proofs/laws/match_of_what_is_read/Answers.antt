use Rattle.hx_xmatch.proofs.Matches.{match_of_read}
use Rattle.hx_xmatch.proofs.laws.match_of_what_is_read.Goals as goal

pub returns : goal.returns
returns c = match_of_read
