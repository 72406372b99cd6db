-- What a writer holds, where it tells it, over several writes.
use Rattle.std.proofs.Common.{◌≡◌, ◌∙◌, ◌+◌, ◌-◌, ℕ, List, [], drop, length, take, Option, None, Some, append_assoc, arith}
use Rattle.std.proofs.Math.Seq.{take-add}
use Rattle.std.proofs.lemmas.List.{append-nil, length-drop, take_all}
use Rattle.std.specs.Io.KnownBytes.{Appends, Keeps}

-- no bytes more
pub kept_none : (before now : Option (List ℕ)) → Appends before now [] → Keeps before now
kept_none None now same = tt
kept_none (Some xs) None same = absurd same
kept_none (Some xs) (Some ys) same = same ∙ append-nil xs

pub kept_twice : (before between now : Option (List ℕ)) → Keeps before between → Keeps between now → Keeps before now
kept_twice None between now first second = tt
kept_twice (Some xs) None now first second = absurd first
kept_twice (Some xs) (Some ys) None first second = absurd second
kept_twice (Some xs) (Some ys) (Some zs) first second = second ∙ first

-- what grew and was kept has grown
pub grown_kept : (before between now : Option (List ℕ)) (bytes : List ℕ) → Appends before between bytes → Keeps between now → Appends before now bytes
grown_kept None between now bytes first second = tt
grown_kept (Some xs) None now bytes first second = absurd first
grown_kept (Some xs) (Some ys) None bytes first second = absurd second
grown_kept (Some xs) (Some ys) (Some zs) bytes first second = second ∙ first

-- a front of bytes, and then more of the rest of them, is a longer front
pub grown_on : (before between now : Option (List ℕ)) (bytes : List ℕ) (at count : ℕ) → Appends before between (take at bytes) → Appends between now (take count (take (length bytes - at) (drop at bytes)))
    → Appends before now (take (at + count) bytes)
grown_on None between now bytes at count first second = tt
grown_on (Some xs) None now bytes at count first second = absurd first
grown_on (Some xs) (Some ys) None bytes at count first second = absurd second
grown_on (Some xs) (Some ys) (Some zs) bytes at count first second =
    let rest : take (length bytes - at) (drop at bytes) ≡ drop at bytes = take_all (length bytes - at) (drop at bytes) (omega (arith, length-drop at bytes)) in
    rw (second, rest, first, take-add at count bytes) (append_assoc xs (take at bytes) (take count (drop at bytes)))
