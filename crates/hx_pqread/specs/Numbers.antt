-- The numbers of a page, one after another, each in four or eight bytes, little-endian, in two's complement.
use Rattle.std.specs.Prelude.{◌≡◌, ℕ, zero, suc, ℤ, List, [], ◌∷◌, length, take, drop, Bool, if◌then◌else◌}
use Rattle.std.specs.Int.{Width, w32, w64, byte_len, from_le_bytes, cast_signed}
use Rattle.hx_thrift.specs.Spelling.{AreAll}

-- the width of INT64, which is wide, and of INT32
abbrev pub width : (is_wide : Bool) → Width
width is_wide = if is_wide then w64 else w32

-- the bytes of a number
abbrev pub size : (is_wide : Bool) → ℕ
size is_wide = byte_len (width is_wide)

-- the number that bytes are
unfoldable pub number : (is_wide : Bool) → List ℕ → ℤ
number is_wide bytes = cast_signed (width is_wide) (from_le_bytes (width is_wide) bytes)

-- a number's bytes
abbrev pub IsNumber : (is_wide : Bool) → List ℕ → ℤ → Type 0
IsNumber is_wide bytes n = (length bytes ≡ size is_wide) × (number is_wide bytes ≡ n)

-- the bytes of numbers, and nothing else
abbrev pub AreNumbers : (is_wide : Bool) → List ℕ → List ℤ → Type 0
AreNumbers is_wide bytes numbers = AreAll (IsNumber is_wide) bytes numbers

-- so many numbers at the front of bytes
unfoldable pub numbers_at : (is_wide : Bool) → (count : ℕ) → List ℕ → List ℤ
numbers_at is_wide zero bytes = []
numbers_at is_wide (suc n) bytes = number is_wide (take (size is_wide) bytes) ∷ numbers_at is_wide n (drop (size is_wide) bytes)
