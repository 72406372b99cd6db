use Rattle.std.proofs.Common.{◌≡◌, map, string_bytes, subst}
use Rattle.hx_words.proofs.Requests.{one_meaning, over_inputs}
use Rattle.hx_words.specs.Requests.{command_of}
use Rattle.hx_words.specs.Words.{Command}
use Rattle.hx_cli.specs.FirstRefusal.{IsEarlyRefusal, IsFirstRefusal}
use Rattle.hx_cli.specs.Runs.{Answers}
use Rattle.hx_cli.proofs.run.answer_line.Goals as goal

pub answer-requires-clause-sound : goal.answer-requires-clause-sound
answer-requires-clause-sound g c = (over_inputs _ _ c.in-Some.request c.in-Some.ensures c.requires).1

pub returns-in-Some-clause-answers : goal.returns-in-Some-clause-answers
returns-in-Some-clause-answers g c = λ (command : Command). λ means.
    let words = map string_bytes c.args.words.now in
    let names = map g.Src.Source.source.label c.args.inputs.items in
    let mine = command_of c.in-Some.request.action words names in
    let same : mine ≡ command = one_meaning words mine command (over_inputs words names c.in-Some.request c.in-Some.ensures c.requires).0 means in
    subst (λ (k : Command). Answers g.Src.Source.source g.S.Store.disk k (IsFirstRefusal k) (IsEarlyRefusal k) c.args.inputs.items c.answer.result.inputs.items c.args.store c.answer.result.store c.answer.result.answer) same c.answer.ensures.answers
