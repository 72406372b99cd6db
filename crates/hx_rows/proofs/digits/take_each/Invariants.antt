use Rattle.std.proofs.Common.{length, take, true, ◌+◌, ◌-◌, ◌<◌, ◌^◌, ◌≡◌}
use Rattle.std.specs.Char.{is_ascii_digit}
use Rattle.std.specs.List.{list_all}
use Rattle.std.specs.Str.Parse.{digits_value_after}
use Rattle.hx_rows.proofs.digits.take_each.Given as goal

-- the bytes so far are digits, and the value has them behind those of `start`
abbrev pub invariant-loop-byte : goal.invariant-loop-byte
invariant-loop-byte l = record {
  digits : list_all is_ascii_digit (take l.byte-index l.text) ≡ true;
  value : l.value ≡ digits_value_after 10 l.start (take l.byte-index l.text);
  room : l.value < 10 ^ (19 - length l.text + l.byte-index);
}
