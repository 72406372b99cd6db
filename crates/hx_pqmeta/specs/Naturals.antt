-- Counts, sizes and places, which a file has as signed numbers.
use Rattle.std.specs.Prelude.{ℕ, ℤ, pos, negsuc}

-- One that isn't negative. A negative one is taken as 0.
abbrev pub natural : ℤ → ℕ
natural (pos n) = n
natural (negsuc n) = 0
