-- The count of faults of an object of the outside world.
use Rattle.std.specs.Prelude.{◌+◌, ◌-◌, ◌^◌, ◌≤◌, ℕ, min, Result, OnErr, IsErrOf}
use Rattle.hx_outside.specs.declared.store.StoreError.{StoreError}
use Rattle.hx_outside.specs.declared.store.StoreError.TheVariants as error

-- a count has risen, or stands at 2^64 - 1 or above, where it need not rise any more
abbrev pub Rose : ℕ → ℕ → Type 0
Rose before now = min (before + 1) (2 ^ 64 - 1) ≤ now

-- an object has failed, by its count before and now
abbrev pub HasFailed : {S : Type 0} → (S → ℕ) → S → S → Type 0
HasFailed faults before now = Rose (faults before) (faults now)

-- a count never falls, and has risen, or stands at 2^64 - 1 or above, where a call answers a fault
pub record HasCause {S T E : Type 0} (faults : S → ℕ) (before now : S) (result : Result T E) : Type 0 where
  pub later : faults before ≤ faults now
  pub failed : OnErr result (HasFailed faults before now)

-- the same of a store, whose calls may also want memory
pub record HasStoreCause {S T : Type 0} (faults : S → ℕ) (before now : S) (result : Result T StoreError) : Type 0 where
  pub later : faults before ≤ faults now
  pub failed : IsErrOf result error.Failed → HasFailed faults before now
