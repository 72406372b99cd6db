use Rattle.std.proofs.Common.{◌≡◌, ◌<◌, length, take}
use Rattle.hx_cli.specs.Neighbours.{spaced}
use Rattle.hx_cli.proofs.neighbours.spaced_numbers.Given as goal

abbrev pub invariant-loop-i : goal.invariant-loop-i
invariant-loop-i l = record {
  text : l.text.items ≡ spaced (take l.i l.around);
  some : 0 < l.i → 0 < length l.text.items;
}
