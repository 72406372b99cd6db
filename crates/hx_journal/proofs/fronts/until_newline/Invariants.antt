use Rattle.std.proofs.Common.{take}
use Rattle.hx_journal.specs.Fronts.{HasNoNewline}
use Rattle.hx_journal.proofs.fronts.until_newline.Given as goal

abbrev pub invariant-loop-i : goal.invariant-loop-i
invariant-loop-i l = HasNoNewline (take l.i l.text)
