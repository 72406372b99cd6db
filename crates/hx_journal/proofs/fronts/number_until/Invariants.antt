use Rattle.std.proofs.Common.{◌≡◌, ◌<◌, ◌^◌, take}
use Rattle.std.specs.Str.Parse.{AllDigits, digits_value}
use Rattle.hx_journal.proofs.fronts.number_until.Given as goal

-- the bytes so far are digits, and these their number
abbrev pub invariant-loop-i : goal.invariant-loop-i
invariant-loop-i l = record {
  digits : AllDigits 10 (take l.i l.text);
  value : l.number ≡ digits_value 10 (take l.i l.text);
  fits : l.number < 2 ^ 64;
}
