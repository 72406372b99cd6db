use Rattle.std.proofs.Common.{drop, length, take, ◌-◌, ◌≤◌}
use Rattle.hx_rows.proofs.Lines.{AboveComma}
use Rattle.hx_rows.proofs.plain.run_end.Given as goal

-- the bytes so far stand above the comma, eight at a time
abbrev pub invariant-words : goal.invariant-words
invariant-words l = record {
  low : l.from ≤ l.end;
  high : l.end ≤ length l.text;
  run : AboveComma (take (l.end - l.from) (drop l.from l.text));
}

abbrev pub decreases-words : goal.decreases-words
decreases-words l = length l.text - l.end

-- and one by one
abbrev pub invariant-run : goal.invariant-run
invariant-run l = AboveComma (take (l.i - l.from) (drop l.from l.text))
