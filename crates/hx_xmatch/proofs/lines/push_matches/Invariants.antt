use Rattle.std.proofs.Common.{◌≡◌, ◌≤◌, ◌++◌, take}
use Rattle.hx_xmatch.specs.MatchText.{match_lines, matched_rows}
use Rattle.hx_xmatch.proofs.lines.push_matches.Given as goal

abbrev pub invariant-loop-row : goal.invariant-loop-row
invariant-loop-row l = record {
  text : l.text.items ≡ l.initial.text.items ++ match_lines l.r2 l.tree (take l.row-index l.left);
  matched : l.matched ≡ matched_rows l.r2 l.tree (take l.row-index l.left);
  fits : l.matched ≤ l.row-index;
}
