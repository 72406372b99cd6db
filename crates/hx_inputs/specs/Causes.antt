-- Why inputs were refused, by their sources before and after.
use Rattle.std.specs.Prelude.{◌≡◌, ◌<◌, ◌⊎◌, ℕ, List, length, slice_index_or, Err, IfSome}
use Rattle.hx_base.specs.Limits.{most_bytes, most_inputs}
use Rattle.hx_base.specs.declared.refusal.Refusal.{Refusal}
use Rattle.hx_base.specs.declared.refusal.Refusal.TheVariants as refusal
use Rattle.hx_outside.specs.Faults.{HasFailed}
use Rattle.hx_outside.specs.Sources.{SourceMembers}
use Rattle.hx_rows.specs.Reading.{rows_of}
use Rattle.hx_inputs.specs.Sources.{HasLength}

-- the bytes of an input, by its number, couldn't be read
abbrev pub IsReadCause : {S : Type 0} → SourceMembers S → ℕ → S → S → Refusal → Type 0
IsReadCause source number before now (refusal.InputFault input) = (input ≡ number) × HasFailed source.faults before now
IsReadCause source number before now refusal.Memory = Unit {0}
IsReadCause source number before now _ = ⊥

-- or they have a fault, or are too many
abbrev pub IsInputCause : {S : Type 0} → SourceMembers S → ℕ → S → S → Refusal → Type 0
IsInputCause source number before now (refusal.BadInput input row why) =
    (input ≡ number) × IfSome (source.told before) (λ bytes. rows_of (source.label before) bytes ≡ Err (row, why))
IsInputCause source number before now (refusal.TooMany what found limit) =
    (what ≡ 2) × (limit ≡ most_bytes) × (limit < found) × IfSome (source.told before) (λ bytes. length bytes ≡ found)
IsInputCause source number before now r = IsReadCause source number before now r

-- a quantity is above its limit: how many inputs there are, or the bytes of one of them
abbrev pub IsTooMany : {S : Type 0} → SourceMembers S → List S → ℕ → ℕ → ℕ → Type 0
IsTooMany source inputs what found limit =
    (limit < found) × (((what ≡ 1) × (limit ≡ most_inputs) × (found ≡ length inputs)) ⊎ ((what ≡ 2) × (limit ≡ most_bytes) × HasLength source inputs found))

-- the cause that an input of this number gives
abbrev pub IsCauseAt : {S : Type 0} → SourceMembers S → ℕ → List S → List S → Refusal → Type 0
IsCauseAt {S} source input before now r =
    (input < length before) × ((d : S) → IsInputCause source input (slice_index_or before input d) (slice_index_or now input d) r)

-- the cause of a refusal of inputs
abbrev pub IsInputsCause : {S : Type 0} → SourceMembers S → List S → List S → Refusal → Type 0
IsInputsCause source before now (refusal.BadInput input row why) = IsCauseAt source input before now (refusal.BadInput input row why)
IsInputsCause source before now (refusal.InputFault input) = IsCauseAt source input before now (refusal.InputFault input)
IsInputsCause source before now (refusal.TooMany what found limit) = IsTooMany source before what found limit
IsInputsCause source before now refusal.Memory = Unit {0}
IsInputsCause source before now _ = ⊥
