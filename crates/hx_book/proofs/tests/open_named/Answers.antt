use Rattle.std.proofs.Common.{refl}
use Rattle.hx_book.proofs.tests.open_named.Goals as goal

pub open_in-requires-clause-named : goal.open_in-requires-clause-named
open_in-requires-clause-named g c = record {
  settings_are = refl;
  origins_are = refl;
  moment_is = refl;
  before_is = refl;
  tells_it = λ t. t;
  opening_is = λ f left. left;
  with_tells = λ none. absurd none;
  told = λ none. absurd none;
  resumable = λ none. absurd none;
}
