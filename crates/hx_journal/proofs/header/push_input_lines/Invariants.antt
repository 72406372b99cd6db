use Rattle.std.proofs.Common.{◌≡◌, ◌++◌, map, take}
use Rattle.hx_journal.specs.Headers.{AreListed, input_line, listed, text_of}
use Rattle.hx_journal.proofs.header.push_input_lines.Given as goal

abbrev pub invariant-loop-i : goal.invariant-loop-i
invariant-loop-i l = record {
  lines : l.text.items ≡ l.fn.text.items ++ text_of (take l.i (map input_line (listed l.lens l.words)));
  inputs : AreListed (take l.i (listed l.lens l.words));
}
