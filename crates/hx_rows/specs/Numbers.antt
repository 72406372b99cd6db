-- Signs and digits of numbers.
use Rattle.std.specs.Prelude.{◌≡◌, ◌<◌, Bool, true, false, ℕ, ℤ, pos, neg_ℤ, Option, Some, None, option_map, List, length, if◌then◌else◌}
use Rattle.std.specs.Char.{is_ascii_digit}
use Rattle.std.specs.Int.{from_le_bytes, w64}
use Rattle.std.specs.List.{AllByRecursion, list_all}
use Rattle.std.specs.Str.Parse.{digits_value_after}

-- the number of a magnitude, with a `-` before it or none
abbrev pub signed : Bool → Option ℕ → Option ℤ
signed true magnitude = option_map (λ n. neg_ℤ (pos n)) magnitude
signed false magnitude = option_map pos magnitude

-- the eight bytes of a word, the lowest first
abbrev pub IsWordOf : ℕ → List ℕ → Type 0
IsWordOf word bytes = (length bytes ≡ 8) × AllByRecursion (λ byte. byte < 256) bytes × (word ≡ from_le_bytes w64 bytes)

-- the number that digits spell behind those of a value, if all of them are digits
abbrev pub number_after : ℕ → List ℕ → Option ℕ
number_after value text = if list_all is_ascii_digit text then Some (digits_value_after 10 value text) else None
