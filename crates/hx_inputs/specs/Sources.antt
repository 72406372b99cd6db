-- The sources of inputs in their order: what they tell, and what is left of them after calls.
use Rattle.std.specs.Prelude.{◌≡◌, ◌<◌, ℕ, List, length, map, slice_index_or, Some, IfSome}
use Rattle.hx_outside.specs.Faults.{HasFailed}
use Rattle.hx_outside.specs.Sources.{SameSource, SourceMembers}

-- each source tells its bytes, and these are they
abbrev pub Tell : {S : Type 0} → SourceMembers S → List S → List (List ℕ) → Type 0
Tell source inputs bytes = map source.told inputs ≡ map Some bytes

-- one of the inputs has so many bytes, where it tells them
abbrev pub HasLength : {S : Type 0} → SourceMembers S → List S → ℕ → Type 0
HasLength {S} source inputs count = (input : ℕ) × (input < length inputs) × ((d : S) → IfSome (source.told (slice_index_or inputs input d)) (λ bytes. length bytes ≡ count))

-- the same sources in the same order: each tells the same bytes under the same name, and no count fell
pub record SameSources {S : Type 0} (source : SourceMembers S) (before now : List S) : Type 0 where
  pub count : length now ≡ length before
  pub each : (i : ℕ) (d : S) → i < length before → SameSource source (slice_index_or before i d) (slice_index_or now i d)

-- no source has failed
abbrev pub NoneRose : {S : Type 0} → SourceMembers S → List S → List S → Type 0
NoneRose {S} source before now = (i : ℕ) (d : S) → i < length before → HasFailed source.faults (slice_index_or before i d) (slice_index_or now i d) → ⊥
