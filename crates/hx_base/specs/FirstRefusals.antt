-- Which refusal comes first: the words in which every command says it.
use Rattle.std.specs.Prelude.{◌≡◌, ◌⊎◌, Option, Some, None, IsSomeAnd, Result, Ok, Err}
use Rattle.hx_base.specs.declared.refusal.Refusal.{Refusal}
use Rattle.hx_base.specs.declared.refusal.Refusal.TheVariants as refusal

-- the first refusal is that one, or where there is none the first of the others
abbrev pub OrElse : Option Refusal → (Option Refusal → Type 0) → Option Refusal → Type 0
OrElse None IsFirst first = IsFirst first
OrElse (Some r) IsFirst first = first ≡ Some r

-- the answers that may come in place of one that isn't decided yet
abbrev pub MayStandInPlace : Refusal → Type 0
MayStandInPlace (refusal.InputFault input) = Unit {0}
MayStandInPlace refusal.Memory = Unit {0}
MayStandInPlace _ = ⊥

-- what is shown of the first refusal by work that is done or refused; a refusal that may stand in its place leaves it
-- open
abbrev pub Shows : {T : Type 0} → (Option Refusal → Type 0) → Result T Refusal → Type 0
Shows IsFirst (Ok done) = IsFirst None
Shows IsFirst (Err r) = MayStandInPlace r ⊎ IsFirst (Some r)

-- the answers beside the first refusal: one that may stand in its place, and the sink's where there is none
abbrev pub MayBeInstead : Option Refusal → Type 0 → Type 0
MayBeInstead answer none = IsSomeAnd answer MayStandInPlace ⊎ ((answer ≡ Some refusal.SinkFault) × none)

-- each refusal is answered exactly where it comes first
pub record IsExact (answer : Option Refusal) (IsFirst : Option Refusal → Type 0) : Type 0 where
  pub only : IsFirst answer ⊎ MayBeInstead answer (IsFirst None)
  pub always : (first : Option Refusal) → IsFirst first → (answer ≡ first) ⊎ MayBeInstead answer (first ≡ None)
