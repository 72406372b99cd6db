-- Calls by their numbers: which of them fail, and how they are counted.
use Rattle.std.specs.Prelude.{◌==◌, ◌+◌, ◌-◌, ◌^◌, ℕ, min, Bool, List, if◌then◌else◌}
use Rattle.std.specs.List.{list_any}

-- one more; a count stands still at 2^64 - 1
abbrev pub one_more : ℕ → ℕ
one_more count = min (count + 1) (2 ^ 64 - 1)

-- one more where something holds
abbrev pub one_more_if : Bool → ℕ → ℕ
one_more_if holds count = if holds then one_more count else count

-- whether a number is among those that were named
abbrev pub is_named : List ℕ → ℕ → Bool
is_named named number = list_any (λ other. other == number) named

-- the numbers of the calls that fail, the number of the next call, and how many calls have failed
pub record CallCount : Type 0 where
  pub named : List ℕ
  pub calls : ℕ
  pub faults : ℕ

-- the count after a call that failed or did not
abbrev pub counted : CallCount → Bool → CallCount
counted count failed = record count { calls = one_more count.calls; faults = one_more_if failed count.faults }
