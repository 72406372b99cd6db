use Rattle.std.proofs.Common.{◌≡◌, ◌∙◌, List, length, map, string_bytes, sym, ℕ}
use Rattle.hx_inputs.proofs.InTurn.{both_none, short_after}
use Rattle.hx_inputs.proofs.Sources.{same_names}
use Rattle.hx_inputs.specs.Inputs.{IsAfterLengths, too_long, too_many_inputs}
use Rattle.hx_words.specs.Requests.{command_of}
use Rattle.hx_cli.proofs.Answered.{of_each}
use Rattle.hx_inputs.specs.Sources.{Tell}
use Rattle.hx_cli.proofs.Checked.{check_failed, checked, same_tolds}
use Rattle.hx_cli.proofs.run.answer.Goals as goal

pub act-requires-clause-means : goal.act-requires-clause-means
act-requires-clause-means g c = rw (same_names g.Src.Source.source c.args.inputs.items c.check_inputs.new.inputs.items c.check_inputs.ensures.same) c.requires.means

pub act-requires-clause-sound : goal.act-requires-clause-sound
act-requires-clause-sound g c = rw (same_names g.Src.Source.source c.args.inputs.items c.check_inputs.new.inputs.items c.check_inputs.ensures.same) c.requires.sound

pub act-requires-clause-short : goal.act-requires-clause-short
act-requires-clause-short g c = λ (bytes : List (List ℕ)). λ tell.
    let source = g.Src.Source.source in
    let before = c.args.inputs.items in
    let mid = c.check_inputs.new.inputs.items in
    let same : map source.told mid ≡ map source.told before = same_tolds source before mid mid c.check_inputs.ensures.same in
    let told : Tell source before bytes = sym same ∙ tell in
    (both_none (too_many_inputs (length before)) (too_long bytes) (sym (c.in-Ok.ensures.first bytes told))).1

pub returns-in-Ok-clause-answers : goal.returns-in-Ok-clause-answers
returns-in-Ok-clause-answers g c =
    let source = g.Src.Source.source in
    let before = c.args.inputs.items in
    let mid = c.check_inputs.new.inputs.items in
    let same = c.check_inputs.ensures.same in
    checked source g.S.Store.disk before mid (command_of c.args.action (map string_bytes c.args.words.now) (map source.label before)) same c.act.result.inputs.items c.args.store c.act.result.store c.act.result.answer
    c.in-Ok.ensures.first (rw (same_names source before mid same) at c.act.ensures)

pub returns-in-Ok-clause-in_turn : goal.returns-in-Ok-clause-in_turn
returns-in-Ok-clause-in_turn g c = λ (bytes : List (List ℕ)). λ tell.
    let none = both_none (too_many_inputs (length c.args.inputs.items)) (too_long bytes) (sym (c.in-Ok.ensures.first bytes tell)) in
    of_each (IsAfterLengths bytes) c.act.result.answer (λ r. short_after bytes r none.1)

pub returns-in-Err-clause-answers : goal.returns-in-Err-clause-answers
returns-in-Err-clause-answers g c =
    let source = g.Src.Source.source in
    let before = c.args.inputs.items in
    let mid = c.check_inputs.new.inputs.items in
    check_failed source g.S.Store.disk before mid (command_of c.args.action (map string_bytes c.args.words.now) (map source.label before)) c.check_inputs.ensures.same c.args.store c.in-Err.refusal
    c.in-Err.ensures.first c.in-Err.ensures.cause
