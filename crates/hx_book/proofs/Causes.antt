-- A cause of the outside lasts.
use Rattle.std.proofs.Common.{◌≤◌, ℕ, arith}
use Rattle.hx_base.specs.declared.refusal.Refusal.{Refusal}
use Rattle.hx_base.specs.declared.refusal.Refusal.TheVariants as refusal
use Rattle.hx_outside.specs.Sources.{SourceMembers}
use Rattle.hx_book.specs.Books.{IsOutsideCause, JobMembers}

pub outside_wider : {Src : Type 0} (j : JobMembers) (source : SourceMembers Src) (P Q : ℕ → Src → Type 0) (one two : ℕ) (r : Refusal) → one ≤ two → ((n : ℕ) (s : Src) → P n s → Q n s)
    → IsOutsideCause j source P one r → IsOutsideCause j source Q two r
outside_wider j source P Q one two refusal.StoreFault le wider c = omega (arith, le, c)
outside_wider j source P Q one two (refusal.InputFault input) le wider (s, origin, at, there, rose) = (s, origin, wider input s at, there, rose)
outside_wider j source P Q one two refusal.Memory le wider c = tt
outside_wider j source P Q one two refusal.Usage le wider c = absurd c
outside_wider j source P Q one two (refusal.BadInput i r w) le wider c = absurd c
outside_wider j source P Q one two (refusal.Overfull p n) le wider c = absurd c
outside_wider j source P Q one two (refusal.TooNarrow l r g) le wider c = absurd c
outside_wider j source P Q one two refusal.SinkFault le wider c = absurd c
outside_wider j source P Q one two (refusal.NoCatalogue s) le wider c = absurd c
outside_wider j source P Q one two (refusal.OtherJob p k a) le wider c = absurd c
outside_wider j source P Q one two (refusal.Damaged s f p) le wider c = absurd c
outside_wider j source P Q one two (refusal.InputChanged i p k f) le wider c = absurd c
outside_wider j source P Q one two (refusal.TooMany w f l) le wider c = absurd c
outside_wider j source P Q one two refusal.NameTaken le wider c = absurd c
