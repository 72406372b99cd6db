use Rattle.std.proofs.Common.{◌≡◌, ◌+◌, ◌++◌, List, length, map}
use Rattle.hx_journal.specs.Headers.{AreListed, Listed, input_line, text_of}
use Rattle.hx_journal.proofs.heading.behind_inputs.Given as goal

-- the inputs so far, and what is left behind their lines
abbrev pub invariant-loop-left : goal.invariant-loop-left
invariant-loop-left l = (done : List Listed) × (length done + l.left ≡ l.count) × AreListed done × (l.text ≡ text_of (map input_line done) ++ l.rest)

abbrev pub decreases-loop-left : goal.decreases-loop-left
decreases-loop-left l = l.left
