use Rattle.std.proofs.Common.{lit<, rules, tests}
use Rattle.std.proofs.lemmas.Bool.{MatchBool-at_true}
use Rattle.std.proofs.lemmas.Iterator.{cases_from_all}
use Rattle.std.proofs.lemmas.Iterator.Search.{true_from_All}
use Rattle.std.proofs.lemmas.Iterator.Splits.{YieldsList-from_str_split}
use Rattle.std.proofs.lemmas.List.Elements.{All-from_all_within}
use Rattle.hx_real.specs.Names.{IsPart, parts}
use Rattle.hx_real.proofs.names.steps_down.Goals as goal

pub returns : goal.returns
returns c =
    let each = cases_from_all _ _ _ IsPart (λ part. ¬ (IsPart part)) c.all.ensures.ran
    (YieldsList-from_str_split 47 c.args.name.now (lit< tt) c.split.ensures.text c.split.ensures.has_more c.split.ensures.pattern)
    (λ part q called. search (rules, tests)) (λ part q called. search (rules, tests)) in (
      λ all. All-from_all_within IsPart (parts c.args.name.now) (MatchBool-at_true _ _ all each),
      λ all. true_from_All IsPart (λ part. ¬ (IsPart part)) _ _ (λ part is isnt. isnt is) each all,
    )
