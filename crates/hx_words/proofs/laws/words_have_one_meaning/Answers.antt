use Rattle.hx_words.proofs.Requests.{one_meaning}
use Rattle.hx_words.proofs.laws.words_have_one_meaning.Goals as goal

pub returns : goal.returns
returns c = one_meaning
