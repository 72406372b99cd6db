use Rattle.std.proofs.Common.{take}
use Rattle.hx_catalog.specs.Fronts.{HasNoNewline}
use Rattle.hx_catalog.proofs.fields.until_newline.Given as goal

abbrev pub invariant-loop-i : goal.invariant-loop-i
invariant-loop-i l = HasNoNewline (take l.i l.text)
