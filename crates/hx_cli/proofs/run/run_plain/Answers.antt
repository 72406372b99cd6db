use Rattle.std.proofs.Common.{List, None, inl, inr, map, string_bytes, ℕ}
use Rattle.hx_inputs.specs.Sources.{Tell}
use Rattle.hx_words.specs.Words.{Command}
use Rattle.hx_cli.proofs.Answered.{caused, caused_usage, decided_printed, exactly, gained, memory_alone, never_sink, output_of, output_of_usage, work_of}
use Rattle.hx_cli.proofs.FirstRefusals.{one_first}
use Rattle.hx_cli.proofs.OverFolders.{same_self}
use Rattle.hx_cli.specs.FirstRefusal.{IsEarlyRefusal, IsFirstRefusal}
use Rattle.hx_cli.specs.Runs.{IsOutput}
use Rattle.hx_cli.proofs.run.run_plain.Goals as goal

pub returns-clause-inputs : goal.returns-clause-inputs
returns-clause-inputs g c =
    let source = g.Src.Source.source in
    let before = c.args.inputs.items in
    let answered = c.answer_line-answer in
    elim answered.ensures.meant [
      | inl none ↦ rw (answered.ensures.usage none).inputs_are (same_self source before)
      | inr (command, means) ↦ (answered.ensures.answers command means).same
    ]

pub returns-clause-first : goal.returns-clause-first
returns-clause-first g c = λ (bytes : List (List ℕ)). λ (command : Command). λ tell. λ means. λ holds.
    let names = map g.Src.Source.source.label c.args.inputs.items in
    let d = g.S.Store.disk in
    let answered = c.answer_line-answer in
    let printed = c.print-refusal in
    exactly command (IsFirstRefusal command names bytes (d.reads c.args.store))
    (one_first c.answers_are_one.ensures.file c.lists_have_one_reading.ensures.one c.properties_have_one_reading.ensures.one d c.args.store command names bytes holds)
    answered.result.answer printed.result printed.ensures.outcome ((answered.ensures.answers command means).first bytes tell holds)

pub returns-clause-decided : goal.returns-clause-decided
returns-clause-decided g c = λ (bytes : List (List ℕ)). λ (command : Command). λ tell. λ means. λ told.
    let names = map g.Src.Source.source.label c.args.inputs.items in
    let answered = c.answer_line-answer in
    let printed = c.print-refusal in
    decided_printed command (IsEarlyRefusal command names bytes (g.S.Store.disk.reads c.args.store)) answered.result.answer printed.result printed.ensures.outcome ((answered.ensures.answers command means).decided bytes tell told)

pub returns-clause-complete : goal.returns-clause-complete
returns-clause-complete g c = λ (bytes : List (List ℕ)). λ (command : Command). λ tell. λ means. λ holds. λ none. λ still. λ store_still. λ sink.
    let source = g.Src.Source.source in
    let d = g.S.Store.disk in
    let before = c.args.inputs.items in
    let names = map source.label before in
    let answered = c.answer_line-answer in
    let printed = c.print-refusal in
    let a = answered.ensures.answers command means in
    let exact = exactly command (IsFirstRefusal command names bytes (d.reads c.args.store))
    (one_first c.answers_are_one.ensures.file c.lists_have_one_reading.ensures.one c.properties_have_one_reading.ensures.one d c.args.store command names bytes holds)
    answered.result.answer printed.result printed.ensures.outcome (a.first bytes tell holds) in
    memory_alone source d before answered.result.inputs.items c.args.store answered.result.store c.damage_is_exact.ensures.damaged bytes tell command holds _ _ answered.result.answer printed.result
    printed.ensures.outcome a.cause printed.ensures.cause (exact.always None none) still store_still sink

pub returns-clause-cause : goal.returns-clause-cause
returns-clause-cause g c =
    let source = g.Src.Source.source in
    let before = c.args.inputs.items in
    let words = map string_bytes c.args.words.now in
    let answered = c.answer_line-answer in
    let printed = c.print-refusal in
    elim answered.ensures.meant [
      | inl none ↦ caused_usage source g.S.Store.disk before answered.result.inputs.items c.args.store answered.result.store words _ none answered.result.answer printed.result printed.ensures.outcome (answered.ensures.usage none).refused
      | inr (command, means) ↦ caused source g.S.Store.disk before answered.result.inputs.items c.args.store answered.result.store words _ command means answered.result.answer printed.result printed.ensures.outcome (answered.ensures.answers command means).cause printed.ensures.cause
    ]

pub returns-clause-output : goal.returns-clause-output
returns-clause-output g c =
    let source = g.Src.Source.source in
    let before = c.args.inputs.items in
    let words = map string_bytes c.args.words.now in
    let names = map source.label before in
    let answered = c.answer_line-answer in
    let printed = c.print-refusal in
    gained (g.O.Sink.sink.written c.args.out.now) (g.O.Sink.sink.written printed.new.out) answered.result.answer printed.result (Tell source before) (IsOutput g.S.Store.disk c.args.store words names) printed.ensures.output
    (elim answered.ensures.meant [
      | inl none ↦ λ (bytes : List (List ℕ)). λ tell. output_of_usage g.S.Store.disk c.args.store words names bytes answered.result.answer (answered.ensures.usage none).refused
      | inr (command, means) ↦ λ (bytes : List (List ℕ)). λ tell. output_of g.S.Store.disk c.args.store words names bytes command means answered.result.answer ((answered.ensures.answers command means).text bytes tell)
    ])

pub returns-clause-store : goal.returns-clause-store
returns-clause-store g c = λ (command : Command). λ means.
    let source = g.Src.Source.source in
    let d = g.S.Store.disk in
    let before = c.args.inputs.items in
    let answered = c.answer_line-answer in
    let printed = c.print-refusal in
    let a = answered.ensures.answers command means in
    let none = never_sink source d before answered.result.inputs.items c.args.store answered.result.store command answered.result.answer a.cause in
    rw (work_of answered.result.answer printed.result printed.ensures.outcome none) a.leaves
