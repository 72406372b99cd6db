use Rattle.std.proofs.Common.{◌+◌}
use Rattle.std.proofs.lemmas.List.{take_rest}
use Rattle.hx_journal.proofs.Lines.{newline-at, newline-more, newline-none}
use Rattle.hx_journal.proofs.fronts.until_newline.Goals as goal

pub returns-then-text-i-eq10 : goal.returns-then-text-i-eq10
returns-then-text-i-eq10 c = rw (take_rest c.args.text.now (c.loop-i.i + 1)) (newline-at c.args.text.now c.loop-i.i c.loop-i-test.true c.loop-i.invariant c.if-text-i-eq10.true)

pub loop-i-preserved : goal.loop-i-preserved
loop-i-preserved c = newline-more c.args.text.now c.loop-i.i c.loop-i-test.true c.loop-i.invariant c.if-text-i-eq10.false

pub returns : goal.returns
returns c = newline-none c.args.text.now c.loop-i.i c.loop-i-test.false c.loop-i.invariant
