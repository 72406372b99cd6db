use Rattle.std.proofs.Common.{◌≡◌, ◌∙◌, ◌+◌, ◌-◌, ◌*◌, ◌%◌, ◌^◌, ◌<◌, ◌≤◌, ◌↔◌, ℕ, IsTrue, ap, arith, bit_and, nat_lt}
use Rattle.std.proofs.lemmas.Bool.Decides.{Decides-ltb}
use Rattle.std.proofs.lemmas.Nat.{and_mask, one_shl, pow_pos}
use Rattle.hx_margin.specs.Inner.{IsInBlock}
use Rattle.hx_margin.proofs.edges.is_in_block.Goals as goal

mask_is : (steps x : ℕ) → steps ≤ 29 → bit_and x (1 * 2 ^ steps % 4294967296 - 1) ≡ x % 2 ^ steps
mask_is steps x le = ap (λ (m : ℕ). bit_and x (m - 1)) (one_shl steps 32 (omega arith)) ∙ and_mask x steps

last_is : (steps : ℕ) → steps ≤ 29 → 1 * 2 ^ steps % 4294967296 - 1 + 1 ≡ 2 ^ steps
last_is steps le = omega (arith, one_shl steps 32 (omega arith), pow_pos steps)

below_last : (steps x place last : ℕ) → place ≡ x % 2 ^ steps → last + 1 ≡ 2 ^ steps → 0 < place → IsTrue (nat_lt place last) ↔ IsInBlock steps x
below_last steps x place last at size first = (
  λ t. let lt = (Decides-ltb place last).0 t in record { not_first = omega (arith, at, first); not_last = omega (arith, at, size, lt) },
  λ h. let lt = h.not_last in (Decides-ltb place last).1 (omega (arith, at, size, lt)),
)

at_first : (steps x place : ℕ) → place ≡ x % 2 ^ steps → place ≤ 0 → IsTrue (nat_lt 0 place) ↔ IsInBlock steps x
at_first steps x place at none = (
  λ t. let lt = (Decides-ltb 0 place).0 t in absurd (omega (arith, lt, none)),
  λ h. let lt = h.not_first in absurd (omega (arith, at, lt, none)),
)

pub returns-then-place-gt0 : goal.returns-then-place-gt0
returns-then-place-gt0 c = below_last c.args.steps c.args.x _ _ (mask_is c.args.steps c.args.x c.requires) (last_is c.args.steps c.requires) c.if-place-gt0.true

pub returns-else-place-gt0 : goal.returns-else-place-gt0
returns-else-place-gt0 c = at_first c.args.steps c.args.x _ (mask_is c.args.steps c.args.x c.requires) c.if-place-gt0.false
