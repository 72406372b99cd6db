use Rattle.std.proofs.Common.{rules}
use Rattle.hx_base.specs.FileWords.{IsFileWord}
use Rattle.hx_import.proofs.Tested.{one-more}
use Rattle.hx_import.proofs.tests.skies.with.Goals as goal

pub returns-clause-words : goal.returns-clause-words
returns-clause-words g c =
    let word : IsFileWord (g.Src.Source.source.label c.args.source) = search rules in
    rw c.in_ok-push.ensures.items (one-more g.Src.Source.source.label IsFileWord c.args.inputs.items c.args.source c.requires.words word)
