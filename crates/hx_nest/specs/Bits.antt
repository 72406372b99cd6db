-- Bits of a number.
use Rattle.std.specs.Prelude.{◌+◌, ◌*◌, ◌/◌, ◌%◌, ℕ, zero, suc}

-- the lowest m bits of those at the even digits
unfoldable pub even_bits : ℕ → ℕ → ℕ
even_bits zero number = 0
even_bits (suc m) number = number % 2 + 2 * even_bits m (number / 4)
