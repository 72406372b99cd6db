use Rattle.std.proofs.Common.{◌∙◌, ◌++◌, List, ℕ, ap, add-one, arith}
use Rattle.hx_journal.specs.Headers.{text_of}
use Rattle.hx_journal.proofs.Written.{all-sound, all-written, input-sound, input-written}
use Rattle.hx_journal.proofs.header.push_input_lines.Goals as goal

pub loop-i-preserved : goal.loop-i-preserved
loop-i-preserved c =
    let line = rw (c.as_str.ensures.bytes, c.index-words-i.is) at c.in_ok-push_input_line.ensures.line in
    let word = rw (c.as_str.ensures.bytes, c.index-words-i.is) at c.in_ok-push_input_line.ensures.utf8 in
    let rule = rw c.index-words-i.is at c.as_str.ensures.rule in
    rw (add-one c.loop-i.i) (record {
      lines = input-written c.args.text.now.items c.loop-i.text.items c.push_input_line.new.text.items c.args.lens.now c.args.words.now c.index-words-i.result c.loop-i.i c.loop-i-test.true c.requires c.loop-i.invariant.lines line;
      inputs = input-sound c.args.lens.now c.args.words.now c.index-words-i.result c.loop-i.i c.loop-i-test.true c.requires c.loop-i.invariant.inputs (record { len = omega arith; word = rule; text = word });
    })

pub returns-clause-lines : goal.returns-clause-lines
returns-clause-lines c =
    c.loop-i.invariant.lines ∙ ap (λ (lines : List (List ℕ)). c.args.text.now.items ++ text_of lines) (all-written c.args.lens.now c.args.words.now c.loop-i.i c.loop-i-test.false c.requires)

pub returns-clause-inputs : goal.returns-clause-inputs
returns-clause-inputs c = all-sound c.args.lens.now c.args.words.now c.loop-i.i c.loop-i-test.false c.requires c.loop-i.invariant.inputs
