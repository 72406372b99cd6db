-- What a source means, and what its calls answer where it tells its bytes.
use Rattle.std.specs.Prelude.{◌≡◌, ◌<◌, ◌≤◌, ◌-◌, ◌^◌, ℕ, List, length, take, drop, Option, Some, None, Result, IfOk, IfSome}
use Rattle.std.proofs.lemmas.Option.{none-some}

-- what a source means
pub record SourceMembers (S : Type 0) : Type 0 where
  -- its bytes, where it tells them
  pub told : S → Option (List ℕ)
  -- the bytes of its name
  pub label : S → List ℕ
  -- how often it has failed
  pub faults : S → ℕ
  -- what it tells has a length that a u64 holds
  pub short : (source : S) (bytes : List ℕ) → told source ≡ Some bytes → length bytes < 2 ^ 64

-- a source that tells nothing of its bytes
abbrev pub silent : {S : Type 0} → (S → List ℕ) → (S → ℕ) → SourceMembers S
silent label faults = record { told = λ source. None; label = label; faults = faults; short = λ source bytes told. absurd (none-some bytes told) }

-- the number of its bytes
abbrev pub GivesLength : {E : Type 0} → Option (List ℕ) → Result ℕ E → Type 0
GivesLength told result = IfOk result (λ n. IfSome told (λ bytes. n ≡ length bytes))

-- the first n bytes of the buffer are those of the source from `at` on, and n isn't 0 where any are left and wanted
pub record GivesBytes (bytes : List ℕ) (at room : ℕ) (buf : List ℕ) (n : ℕ) : Type 0 where
  pub same : take n buf ≡ take n (drop at bytes)
  pub within : n ≤ length bytes - at
  pub some : at < length bytes → 0 < room → 0 < n

abbrev pub Gives : {E : Type 0} → Option (List ℕ) → ℕ → ℕ → List ℕ → Result ℕ E → Type 0
Gives told at room buf result = IfOk result (λ n. IfSome told (λ bytes. GivesBytes bytes at room buf n))

-- a source after some calls: it tells the same bytes under the same name, and its count of faults did not fall
pub record SameSource {S : Type 0} (source : SourceMembers S) (before now : S) : Type 0 where
  pub bytes : source.told now ≡ source.told before
  pub name : source.label now ≡ source.label before
  pub later : source.faults before ≤ source.faults now
