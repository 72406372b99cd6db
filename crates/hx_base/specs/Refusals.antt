-- The exit status of each refusal.
use Rattle.std.specs.Prelude.{ℕ, Option, Some, None}
use Rattle.hx_base.specs.declared.refusal.Refusal.{Refusal}
use Rattle.hx_base.specs.declared.refusal.Refusal.TheVariants as refusal

abbrev pub status_of : Refusal → ℕ
status_of refusal.Usage = 1
status_of (refusal.BadInput input row why) = 2
status_of (refusal.Overfull pixel count) = 3
status_of (refusal.TooNarrow left right gap2) = 4
status_of refusal.StoreFault = 5
status_of (refusal.InputFault input) = 6
status_of refusal.SinkFault = 7
status_of refusal.Memory = 8
status_of (refusal.NoCatalogue side) = 9
status_of (refusal.OtherJob place kept asked) = 10
status_of (refusal.Damaged side file place) = 11
status_of (refusal.InputChanged input pixel kept found) = 12
status_of (refusal.TooMany what found limit) = 13
status_of refusal.NameTaken = 14

-- 0 where nothing was refused
abbrev pub status_after : Option Refusal → ℕ
status_after None = 0
status_after (Some refusal) = status_of refusal
